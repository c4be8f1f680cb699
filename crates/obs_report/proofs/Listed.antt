-- Lines for the items of a list, one behind the other.
use Rattle.std.proofs.Common.{◌≡◌, ◌∙◌, ◌++◌, ◌+◌, ◌<◌, ◌≤◌, ℕ, List, length, get_or, drop, sym, ap, append_assoc, append-nil}
use Rattle.std.specs.List.{flat_map}
use Rattle.std.proofs.lemmas.List.{drop_all, drop_more}

-- the text of one item more
pub listed_more : (f : ℕ → List ℕ) (xs : List ℕ) (i x : ℕ) (text whole : List ℕ) → i < length xs → x ≡ get_or xs i 0 → text ++ flat_map f (drop i xs) ≡ whole → (text ++ f x) ++ flat_map f (drop (i + 1) xs) ≡ whole
listed_more f xs i x text whole l is all =
    let here : f x ++ flat_map f (drop (i + 1) xs) ≡ flat_map f (drop i xs) = ap (λ y. f y ++ flat_map f (drop (i + 1) xs)) is ∙ sym (ap (flat_map f) (drop_more xs i 0 l)) in
    append_assoc text (f x) (flat_map f (drop (i + 1) xs)) ∙ (ap (λ t. text ++ t) here ∙ all)

-- no item is left
pub listed_all : (f : ℕ → List ℕ) (xs : List ℕ) (i : ℕ) (text whole : List ℕ) → length xs ≤ i → text ++ flat_map f (drop i xs) ≡ whole → text ≡ whole
listed_all f xs i text whole l all = sym (append-nil text) ∙ (ap (λ t. text ++ flat_map f t) (sym (drop_all i xs l)) ∙ all)
