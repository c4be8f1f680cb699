-- The outage list, entry by entry.
use Rattle.std.proofs.Common.{inl, inr, ◌≡◌, ℕ, ◌+◌, ◌-◌, ◌<◌, ◌≤◌, true, false, List, [], ◌∷◌, ◌++◌, length, map, set, take, refl, sym, ap, ◌∙◌, subst, arith, append_assoc, append-nil}
use Rattle.std.specs.Prelude.{filter}
use Rattle.std.specs.List.{range_with_len}
use Rattle.std.proofs.lemmas.List.{length-set, take_more_set}
use Rattle.obs_case.specs.Tables.{Tables}
use Rattle.obs_matroid.specs.Lists.{In}
use Rattle.obs_matroid.proofs.Lists.{In-filter}
use Rattle.obs_matroid.proofs.Ranges.{below_in, later, later_listed, later_over}
use Rattle.obs_outage.specs.declared.outages.Outage.{Outage}
use Rattle.obs_outage.specs.inner.Ready.{IsBasisOf}
use Rattle.obs_outage.specs.declared.basis.Basis.{Basis}
use Rattle.obs_outage.specs.Outages.{is_outage_row, outage_of, outage_rows, outages_of}

-- an entry is that of a row
pub entry_from : (f : ℕ → Outage) (xs : List ℕ) (o : Outage) → In o (map f xs) → (x : ℕ) × In x xs × (o ≡ f x)
entry_from f [] o i = absurd i
entry_from f (x ∷ xs) o (inl e) = (x, inl refl, e)
entry_from f (x ∷ xs) o (inr i) = let r = entry_from f xs o i in (r.0, inr r.1, r.2)

-- the entries of the rows from e on
abbrev pub entries_from : Tables → ℕ → List Outage
entries_from t e = map (outage_of t) (filter (is_outage_row t) (later (length t.branches) e))

-- a row that is present is one of the list
pub row_in : (t : Tables) (e : ℕ) → e < length t.branches → is_outage_row t e ≡ true → In e (outage_rows t)
unfolding outage_rows
row_in t e l p = In-filter (is_outage_row t) e (range_with_len 0 (length t.branches)) (below_in (length t.branches) e l) p

-- the rows below e are listed; the case is as it was, and all is ready for the next
pub record IsListing (t : Tables) (len : ℕ) (now : Tables) (held : Basis) (entries : List Outage) (count e : ℕ) : Type 0 where
  pub bound : count ≤ e
  pub lists : take count entries ++ entries_from t e ≡ outages_of t
  pub long : length entries ≡ len
  pub case : now ≡ t
  pub basis : IsBasisOf t held

pub over : (t : Tables) (entries : List Outage) (count e : ℕ) → take count entries ++ entries_from t e ≡ outages_of t → e < length t.branches → is_outage_row t e ≡ false
    → take count entries ++ entries_from t (e + 1) ≡ outages_of t
over t entries count e h l f = ap (λ r. take count entries ++ map (outage_of t) r) (sym (later_over (is_outage_row t) (length t.branches) e l f)) ∙ h

pub listed : (t : Tables) (entries : List Outage) (count e : ℕ) (o : Outage) → take count entries ++ entries_from t e ≡ outages_of t → e < length t.branches → is_outage_row t e ≡ true
    → count < length entries → o ≡ outage_of t e → take (count + 1) (set entries count o) ++ entries_from t (e + 1) ≡ outages_of t
listed t entries count e o h l p low is =
    ap (λ xs. xs ++ entries_from t (e + 1)) (take_more_set entries count o low)
    ∙ append_assoc (take count entries) (o ∷ []) (entries_from t (e + 1))
    ∙ ap (λ x. take count entries ++ x ∷ entries_from t (e + 1)) is
    ∙ ap (λ r. take count entries ++ map (outage_of t) r) (sym (later_listed (is_outage_row t) (length t.branches) e l p))
    ∙ h

-- behind the last row all are listed
pub all_listed : (t : Tables) (entries : List Outage) (count e : ℕ) → take count entries ++ entries_from t e ≡ outages_of t → length t.branches ≤ e → take count entries ≡ outages_of t
all_listed t entries count e h l =
    let none : length t.branches - e ≡ 0 = omega arith in
    sym (append-nil (take count entries)) ∙ (ap (λ k. take count entries ++ map (outage_of t) (filter (is_outage_row t) (range_with_len e k))) (sym none) ∙ h)

-- before the first row nothing is listed
pub begun : (t : Tables) (entries : List Outage) → take 0 entries ++ entries_from t 0 ≡ outages_of t
unfolding outages_of outage_rows
begun t [] = let all : length t.branches - 0 ≡ length t.branches = omega arith in ap (λ k. map (outage_of t) (filter (is_outage_row t) (range_with_len 0 k))) all
begun t (x ∷ entries) = let all : length t.branches - 0 ≡ length t.branches = omega arith in ap (λ k. map (outage_of t) (filter (is_outage_row t) (range_with_len 0 k))) all

module _ (t : Tables) (len : ℕ) (now : Tables) (basis : Basis) (entries : List Outage) (count e : ℕ) (h : IsListing t len now basis entries count e) (low : e < length t.branches) where
  -- a row that is passed over
  pub IsListing-over : is_outage_row t e ≡ false → IsListing t len now basis entries count (e + 1)
  IsListing-over f = record {
    bound = let b = h.bound in omega (arith, b);
    lists = over t entries count e h.lists low f;
    long = h.long;
    case = h.case;
    basis = h.basis;
  }

  -- and one that is listed
  pub IsListing-listed : is_outage_row t e ≡ true → length t.branches ≤ len → (now1 : Tables) (basis1 : Basis) (o : Outage) → o ≡ outage_of now e → now1 ≡ now → IsBasisOf now basis1
      → IsListing t len now1 basis1 (set entries count o) (count + 1) (e + 1)
  IsListing-listed p enough now1 basis1 o is same ready =
      let b = h.bound in
      let l = h.long in
      record {
        bound = omega (arith, b);
        lists = listed t entries count e o h.lists low p (omega (arith, b, l, low, enough)) (is ∙ ap (λ x. outage_of x e) h.case);
        long = length-set entries count o ∙ h.long;
        case = same ∙ h.case;
        basis = subst (λ (x : Tables). IsBasisOf x basis1) h.case ready;
      }
