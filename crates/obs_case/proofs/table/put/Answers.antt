use Rattle.std.proofs.Common.{◌≡◌, ◌∙◌, ◌++◌, ◌∷◌, [], Bool, List, Result, Ok, Err, OnOk, OnErr, Option, ap, sym, true, false, if◌then◌else◌}
use Rattle.std.proofs.lemmas.Bool.{true≢false}
use Rattle.std.specs.List.{list_any}
use Rattle.std.specs.Set.{swap_key}
use Rattle.obs_case.proofs.RowLemmas.{any-by_name}
use Rattle.obs_case.proofs.table.put.Goals as goal

-- a key that is there is replaced, and that can't fail
replaced : {R E : Type 0} (there : Bool) (result : Result (Option R) E) (old new swapped : List R) (row : R) → there ≡ true
    → OnOk result (new ≡ (if there then swapped else old ++ row ∷ [])) → OnErr result (there ≡ false) → new ≡ swapped
replaced there (Ok o) old new swapped row e keys absent = keys ∙ ap (λ b. if b then swapped else old ++ row ∷ []) e
replaced there (Err o) old new swapped row e keys absent = absurd (true≢false (sym e ∙ absent))

pub returns : goal.returns
returns g c =
    let same = any-by_name g.R.PartialEq.eq g.R.Row.own_name g.met.R.Row.by_name c.args.row c.args.rows.now.keys in
    record {
      put = replaced (list_any (g.R.PartialEq.eq c.args.row) c.args.rows.now.keys) c.replace.result c.args.rows.now.keys c.replace.new.self.keys
          (swap_key (g.R.PartialEq.eq c.args.row) c.args.rows.now.keys c.args.row) c.args.row (same ∙ c.requires.there) c.replace.ensures.keys c.replace.ensures.absent;
    }
