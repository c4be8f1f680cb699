use Rattle.std.proofs.Common.{◌≡◌, true, refl, ap, ◌∙◌}
use Rattle.obs_text.specs.Names.{is_name}
use Rattle.obs_case.specs.Adds.{branch_of, with_branch}
use Rattle.obs_case.specs.Tables.{node_names, place_of}
use Rattle.obs_trial.specs.Trial.{branch_name, node_name}
use Rattle.obs_trial.proofs.NameLemmas.{is_name-numbered, place_of-own}
use Rattle.obs_trial.proofs.rows.add_branch.Goals as goal

pub add_branch-requires : goal.add_branch-requires
add_branch-requires c = record { name = ap is_name c.numbered-name.ensures.name ∙ is_name-numbered 0x62 c.args.k refl c.ranges.k.fits }

pub returns-in-Ok : goal.returns-in-Ok
returns-in-Ok c = record {
  added = λ count has from to.
      let t = c.args.case.now in
      let first : place_of (node_names t) c.numbered-from_name.result.now ≡ c.args.from =
      ap (place_of (node_names t)) c.numbered-from_name.ensures.name ∙ ap (λ names. place_of names (node_name c.args.from)) has ∙ place_of-own 0x6E count c.args.from from c.ranges.from.fits in
      let second : place_of (node_names t) c.numbered-to_name.result.now ≡ c.args.to =
      ap (place_of (node_names t)) c.numbered-to_name.ensures.name ∙ ap (λ names. place_of names (node_name c.args.to)) has ∙ place_of-own 0x6E count c.args.to to c.ranges.to.fits in
      c.in-Ok.ensures.added
      ∙ ap (λ name. with_branch t (branch_of t name c.numbered-from_name.result.now c.numbered-to_name.result.now true)) c.numbered-name.ensures.name
      ∙ ap (λ i. with_branch t (record { name = branch_name c.args.k; from = i; to = place_of (node_names t) c.numbered-to_name.result.now; inservice = true })) first
      ∙ ap (λ i. with_branch t (record { name = branch_name c.args.k; from = c.args.from; to = i; inservice = true })) second;
}
