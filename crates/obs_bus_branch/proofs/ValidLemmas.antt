-- Buses and branches that are added one by one make valid tables.
use Rattle.std.proofs.Common.{◌≡◌, ℕ, ◌+◌, ◌^◌, ◌<◌, ◌≤◌, false, eqb, List, [], ◌∷◌, ◌++◌, length, map, Option, Ok, refl, sym, ap, ◌∙◌, subst, arith}
use Rattle.std.proofs.lemmas.List.{length-map, map-append}
use Rattle.obs_text.specs.Names.{is_name}
use Rattle.obs_case.specs.Tables.{IsValid, has_name, most_rows}
use Rattle.obs_case.specs.declared.rows.Branch.{Branch}
use Rattle.obs_case.proofs.NameLemmas.{place-there}
use Rattle.obs_case.proofs.ValidLemmas.{valid-branches, valid-nodes}
use Rattle.obs_bus_branch.specs.Buses.{Bus, branch_name, has_bus, node_of_bus, tables_of_rows}
use Rattle.obs_bus_branch.specs.inner.Buses.{AreBusesBelow, AreNamed, IsEnd}
use Rattle.obs_bus_branch.proofs.NumberLemmas.{AreBuses-push, AreNamed-push, has_name-branch, has_name-bus, is_name-branch, is_name-decimal}

-- ---- buses

-- buses with different numbers below a limit, and the tables that have them
pub record GoodBuses (limit most : ℕ) (rows : List Bus) : Type 0 where
  pub buses : AreBusesBelow limit rows
  pub valid : IsValid (tables_of_rows most rows [])

-- one bus more
pub GoodBuses-push : {limit most : ℕ} (earlier : List Bus) (bus : Bus) → GoodBuses limit most earlier → limit ≤ 2 ^ 64 → length (map node_of_bus earlier) < most → bus.number < limit → has_bus earlier bus.number ≡ false
    → GoodBuses limit most (earlier ++ bus ∷ [])
GoodBuses-push {most = most} earlier bus good low few small fresh =
    let t = tables_of_rows most earlier [] in
    let more = t.nodes ++ node_of_bus bus ∷ [] in
    let pushed : tables_of_rows most (earlier ++ bus ∷ []) [] ≡ record t { nodes = more } = ap (λ nodes. record t { nodes = nodes }) (map-append node_of_bus earlier (bus ∷ [])) in
    record {
      buses = AreBuses-push earlier bus good.buses small fresh;
      valid = subst IsValid (sym pushed)
          (valid-nodes t good.valid (Ok 0) (node_of_bus bus) more (is_name-decimal bus.number (omega (arith, small, low))) (λ full. omega (arith, full, few))
          (has_name-bus most earlier [] good.buses low bus.number small ∙ fresh) refl tt);
    }

-- ---- branches

module _ (most : ℕ) (buses : List Bus) where
  -- branches that are named in order, and the tables that have them
  pub record GoodBranches (branches : List Branch) : Type 0 where
    pub named : AreNamed 1 branches
    pub valid : IsValid (tables_of_rows most buses branches)

  end_within : (said : Option ℕ) (position : ℕ) → IsEnd buses said position → position < length (map node_of_bus buses)
  end_within said position is =
      let there = place-there (λ (bus : Bus). eqb bus.number is.number) buses is.there in
      omega (arith, there, is.place, length-map buses node_of_bus)

  -- one branch more
  pub GoodBranches-push : (earlier : List Branch) (branch : Branch) → GoodBranches earlier → length earlier < most → branch.name ≡ branch_name (length earlier + 1)
      → (from to : Option ℕ) → IsEnd buses from branch.from → IsEnd buses to branch.to → GoodBranches (earlier ++ branch ∷ [])
  GoodBranches-push earlier branch good few name from to is_from is_to =
      let k = length earlier + 1 in
      let limit : most ≤ most_rows = good.valid.limit in
      record {
        named = AreNamed-push 1 earlier branch good.named (name ∙ ap branch_name (omega arith));
        valid = valid-branches (tables_of_rows most buses earlier) good.valid (Ok 0) branch (earlier ++ branch ∷ [])
            (ap is_name name ∙ is_name-branch k (omega (arith, few, limit))) (λ full. omega (arith, full, few))
            (end_within from branch.from is_from, end_within to branch.to is_to)
            (ap (has_name (map (λ (row : Branch). row.name) earlier)) name ∙ has_name-branch 1 k earlier good.named (omega arith) (omega (arith, few, limit))) refl tt;
      }
