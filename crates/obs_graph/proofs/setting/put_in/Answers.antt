use Rattle.std.proofs.Common.{◌≡◌, ◌+◌, ◌≤◌, ltb, suc, set, take, get_or, sym, ap, ◌∙◌, subst, arith}
use Rattle.std.specs.List.{copy_within, count_by}
use Rattle.std.specs.List.Sorted.{IsPartitionedBy}
use Rattle.obs_graph.specs.inner.Placing.{place_of, total_of}
use Rattle.obs_graph.proofs.Shifted.{changed_from, numbers_behind, place_low, shifted_up}
use Rattle.obs_graph.proofs.setting.put_in.Goals as goal
use Rattle.obs_graph.proofs.setting.put_in.Goals.{After-place_in}

pub place_in-requires : goal.place_in-requires
place_in-requires c = record { parted = subst (IsPartitionedBy (λ p. ltb p c.args.i)) (sym c.part.ensures.part) c.requires.parted }

pub raise-requires : goal.raise-requires
raise-requires c = record { room = λ k d l. let behind = (numbers_behind c.args.starts.now (c.args.v + 1) c.requires.rise k d l).1 in let room = c.requires.room in omega arith }

pub part-requires-clause-rise : goal.part-requires-clause-rise
part-requires-clause-rise c = c.requires.rise c.args.v (suc c.args.v) 0 (omega arith) c.requires.v

pub part-requires-clause-room : goal.part-requires-clause-room
part-requires-clause-room c =
    let low = (place_low c.args.starts.now c.args.at.now c.args.v c.args.i c.requires.v c.requires.rise).1 in
    let room = c.requires.room in
    omega arith

-- the place is not behind the last part
place_fits : (c : After-place_in) → get_or c.args.starts.now c.args.v 0 + c.place_in.result ≤ total_of c.args.starts.now
place_fits c =
    let there : get_or c.args.starts.now c.args.v 0 + c.place_in.result ≡ place_of c.args.starts.now c.args.at.now c.args.v c.args.i = ap (λ k. get_or c.args.starts.now c.args.v 0 + k) (c.place_in.ensures.place ∙ ap (count_by (λ p. ltb p c.args.i)) c.part.ensures.part) in
    let low = place_low c.args.starts.now c.args.at.now c.args.v c.args.i c.requires.v c.requires.rise in
    omega (arith, there, low.0, low.1)

pub overflow_add-place : goal.overflow_add-place
overflow_add-place c = let room = c.requires.room in omega (arith, place_fits c)

pub copy_within-requires-clause-start_le_end : goal.copy_within-requires-clause-start_le_end
copy_within-requires-clause-start_le_end c = place_fits (goal.at.copy_within-requires-clause-start_le_end c).After-place_in

pub copy_within-requires-clause-dest_in_bounds : goal.copy_within-requires-clause-dest_in_bounds
copy_within-requires-clause-dest_in_bounds c = let room = c.requires.room in omega (arith, place_fits (goal.at.copy_within-requires-clause-dest_in_bounds c).After-place_in)

pub bounds-at-place : goal.bounds-at-place
bounds-at-place c = let room = c.requires.room in omega (arith, c.copy_within.ensures.len, place_fits (goal.at.bounds-at-place c).After-place_in)

pub returns-clause-starts : goal.returns-clause-starts
returns-clause-starts c = let m : suc c.args.v ≡ c.args.v + 1 = omega arith in rw m (changed_from (λ n. n + 1) (c.args.v + 1) c.args.starts.now c.raise.new.numbers (let l = c.requires.v in omega arith) c.raise.ensures.higher)

pub returns-clause-at : goal.returns-clause-at
returns-clause-at c =
    let starts = c.args.starts.now in
    let v = c.args.v in
    let there : get_or starts v 0 + c.place_in.result ≡ place_of starts c.args.at.now v c.args.i = ap (λ k. get_or starts v 0 + k) (c.place_in.ensures.place ∙ ap (count_by (λ p. ltb p c.args.i)) c.part.ensures.part) in
    let low = place_low starts c.args.at.now v c.args.i c.requires.v c.requires.rise in
    let room = c.requires.room in
    ap (λ k. take (suc (total_of starts)) (set c.copy_within.new.self k c.args.i)) there
    ∙ shifted_up c.args.at.now c.copy_within.new.self (place_of starts c.args.at.now v c.args.i) (total_of starts) c.args.i (omega arith) room (c.copy_within.ensures.after ∙ ap (λ k. copy_within c.args.at.now k (total_of starts) (k + 1)) there)
