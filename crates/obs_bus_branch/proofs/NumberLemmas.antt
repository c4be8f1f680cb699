-- Numbers of buses and branches, the names that they make, and what a case answers to a name.
use Rattle.std.proofs.Common.{◌≡◌, ℕ, suc, ◌+◌, ◌^◌, ◌<◌, ◌≤◌, Bool, true, false, not, ◌&&◌, ◌⊎◌, cond, eqb, leb, ltb, List, [], ◌∷◌, ◌++◌, length, map, decimal, Some, None, refl, sym, ap, ◌∙◌, subst, inl, inr, arith}
use Rattle.std.proofs.lemmas.Bool.{and_from, le-leb, ne_eqb, lt-ltb}
use Rattle.std.proofs.lemmas.List.{map-append}
use Rattle.std.proofs.lemmas.Map.Keys.{IsDistinct-push}
use Rattle.std.proofs.lemmas.Fmt.{decimal_nonempty, digits_decimal}
use Rattle.std.specs.Cmp.{nat_eq_equiv}
use Rattle.std.specs.List.{AllByRecursion, IsDistinct, list_all, list_any, position_or_len}
use Rattle.std.specs.Str.{bytes_eq}
use Rattle.obs_text.specs.Names.{is_name, is_name_byte}
use Rattle.obs_text.proofs.DecimalLemmas.{digits-name, length-decimal, numerals, same_name}
use Rattle.obs_case.specs.inner.Adds.{Refuses, name_fault}
use Rattle.obs_case.specs.Tables.{has_name, node_names, place_of}
use Rattle.obs_case.specs.declared.rows.Branch.{Branch}
use Rattle.obs_case.specs.declared.rows.Node.{Node}
use Rattle.obs_case.specs.declared.table.AddFault.{AddFault}
use Rattle.obs_case.specs.declared.table.AddFault.TheVariants.{NameTwice, UnknownNode, UnknownPlace, TooMany, NoMemory}
use Rattle.obs_bus_branch.specs.Buses.{Bus, branch_name, has_bus, node_of_bus, place_of_bus, tables_of_rows}
use Rattle.obs_bus_branch.specs.inner.Buses.{AreBusesBelow, AreNamed}

short_name : (bytes : List ℕ) → 0 < length bytes → length bytes ≤ 64 → list_all is_name_byte bytes ≡ true → is_name bytes ≡ true
short_name bytes some few all =
    and_from (ltb 0 (length bytes) && leb (length bytes) 64) (list_all is_name_byte bytes)
    (and_from (ltb 0 (length bytes)) (leb (length bytes) 64) (lt-ltb 0 (length bytes) some) (le-leb (length bytes) 64 few)) all

pub is_name-decimal : (n : ℕ) → n < 2 ^ 64 → is_name (decimal n) ≡ true
is_name-decimal n small =
    let few = length-decimal n small in
    short_name (decimal n) (decimal_nonempty n small) (omega (arith, few)) (digits-name (decimal n) (digits_decimal numerals n small))

pub is_name-branch : (n : ℕ) → n < 2 ^ 64 → is_name (branch_name n) ≡ true
is_name-branch n small =
    let few = length-decimal n small in
    short_name (branch_name n) (omega arith) (omega (arith, few)) (digits-name (decimal n) (digits_decimal numerals n small))

-- tests that agree on each element of a list give one answer
module _ {A B : Type 0} (p : A → Bool) (q : B → Bool) (f : B → A) where
  list_any-same : (xs : List B) → AllByRecursion (λ x. p (f x) ≡ q x) xs → list_any p (map f xs) ≡ list_any q xs
  list_any-same [] same = refl
  list_any-same (x ∷ xs) (here, others) = rw (here, list_any-same xs others) refl

  position_or_len-same : (xs : List B) → AllByRecursion (λ x. p (f x) ≡ q x) xs → position_or_len p (map f xs) ≡ position_or_len q xs
  position_or_len-same [] same = refl
  position_or_len-same (x ∷ xs) (here, others) = rw here (ap (λ n. cond (not (q x)) (1 + n) 0) (position_or_len-same xs others))

-- the names of the buses' nodes are their numbers
names_of : (buses : List Bus) → map (λ (row : Node). row.name) (map node_of_bus buses) ≡ map (λ (bus : Bus). decimal bus.number) buses
names_of [] = refl
names_of (bus ∷ buses) = ap (λ names. decimal bus.number ∷ names) (names_of buses)

-- what a case says of a number's name is what the buses say of the number
module _ {limit : ℕ} (most : ℕ) (buses : List Bus) (branches : List Branch) (are : AreBusesBelow limit buses) (low : limit ≤ 2 ^ 64) (n : ℕ) (small : n < limit) where
  same_names : (bs : List Bus) → AllByRecursion (λ (bus : Bus). bus.number < limit) bs → AllByRecursion (λ (bus : Bus). bytes_eq (decimal n) (node_of_bus bus).name ≡ eqb bus.number n) bs
  same_names [] below = tt
  same_names (bus ∷ bs) (here, others) = (same_name bus.number n (omega (arith, here, low)) (omega (arith, small, low)), same_names bs others)

  pub has_name-bus : has_name (node_names (tables_of_rows most buses branches)) (decimal n) ≡ has_bus buses n
  has_name-bus =
      ap (list_any (bytes_eq (decimal n))) (names_of buses)
      ∙ list_any-same (bytes_eq (decimal n)) (λ (bus : Bus). eqb bus.number n) (λ (bus : Bus). decimal bus.number) buses (same_names buses are.small)

  pub place_of-bus : place_of (node_names (tables_of_rows most buses branches)) (decimal n) ≡ place_of_bus buses n
  place_of-bus =
      ap (position_or_len (bytes_eq (decimal n))) (names_of buses)
      ∙ position_or_len-same (bytes_eq (decimal n)) (λ (bus : Bus). eqb bus.number n) (λ (bus : Bus). decimal bus.number) buses (same_names buses are.small)

pub AreBuses-none : {limit : ℕ} → AreBusesBelow limit []
unfolding IsDistinct
AreBuses-none = record { small = tt; different = tt }

all_push : {A : Type 0} (P : A → Type 0) (xs : List A) (x : A) → AllByRecursion P xs → P x → AllByRecursion P (xs ++ x ∷ [])
all_push P [] x all more = (more, tt)
all_push P (y ∷ xs) x (here, others) more = (here, all_push P xs x others more)

symmetric : (n : ℕ) (buses : List Bus) → AllByRecursion (λ (b : Bus). eqb n b.number ≡ eqb b.number n) buses
symmetric n [] = tt
symmetric n (bus ∷ buses) = (nat_eq_equiv.symm n bus.number, symmetric n buses)

-- one bus more, with a number that no other has
pub AreBuses-push : {limit : ℕ} (buses : List Bus) (bus : Bus) → AreBusesBelow limit buses → bus.number < limit → has_bus buses bus.number ≡ false → AreBusesBelow limit (buses ++ bus ∷ [])
AreBuses-push {limit} buses bus are small new =
    let absent : list_any (eqb bus.number) (map (λ (b : Bus). b.number) buses) ≡ false =
    list_any-same (eqb bus.number) (λ (b : Bus). eqb b.number bus.number) (λ (b : Bus). b.number) buses (symmetric bus.number buses) ∙ new in
    record {
      small = all_push (λ (b : Bus). b.number < limit) buses bus are.small small;
      different = subst (λ numbers. IsDistinct eqb numbers) (sym (map-append (λ (b : Bus). b.number) buses (bus ∷ [])))
          (IsDistinct-push nat_eq_equiv (map (λ (b : Bus). b.number) buses) bus.number are.different absent);
    }

-- the names of branches are different
pub has_name-branch : (k n : ℕ) (branches : List Branch) → AreNamed k branches → k + length branches ≤ n → n < 2 ^ 64 → has_name (map (λ (row : Branch). row.name) branches) (branch_name n) ≡ false
has_name-branch k n [] named after small = refl
has_name-branch k n (branch ∷ branches) (here, others) after small =
    let other : bytes_eq (decimal n) (decimal k) ≡ false = same_name k n (omega arith) small ∙ ne_eqb k n (omega arith) in
    rw (here, other) (has_name-branch (suc k) n branches others (omega arith) small)

pub AreNamed-push : (k : ℕ) (branches : List Branch) (branch : Branch) → AreNamed k branches → branch.name ≡ branch_name (k + length branches) → AreNamed k (branches ++ branch ∷ [])
AreNamed-push k [] branch named next = (next ∙ ap branch_name (omega arith), tt)
AreNamed-push k (first ∷ branches) branch (here, others) next =
    (here, AreNamed-push (suc k) branches branch others (next ∙ ap branch_name (omega arith)))

all_at : {A R : Type 0} (P : A → Type 0) (f : R → A) (xs : List R) (y : R) (ys : List R) → AllByRecursion P (map f (xs ++ y ∷ ys)) → P (f y)
all_at P f [] y ys all = all.0
all_at P f (x ∷ xs) y ys all = all_at P f xs y ys all.1

-- a number that is different from all others is new among the earlier
pub fresh_number : {R : Type 0} (number : R → ℕ) (earlier : List R) (r : R) (later : List R) → IsDistinct eqb (map number (earlier ++ r ∷ later)) → list_any (λ e. eqb (number e) (number r)) earlier ≡ false
unfolding IsDistinct
fresh_number number [] r later different = refl
fresh_number number (first ∷ earlier) r later different =
    let here : eqb (number first) (number r) ≡ false = all_at (λ n. eqb (number first) n ≡ false) number earlier r later different.0 in
    rw here (fresh_number number earlier r later different.1)

-- a branch is its four fields
pub same_branch : (branch : Branch) (name : List ℕ) (from to : ℕ) (inservice : Bool) → branch.name ≡ name → branch.from ≡ from → branch.to ≡ to → branch.inservice ≡ inservice → record { name = name; from = from; to = to; inservice = inservice } ≡ branch
same_branch branch name from to inservice n f t s =
    ap (λ (x : List ℕ). record branch { name = x; from = from; to = to; inservice = inservice }) (sym n)
    ∙ ap (λ (x : ℕ). record branch { from = x; to = to; inservice = inservice }) (sym f)
    ∙ ap (λ (x : ℕ). record branch { to = x; inservice = inservice }) (sym t)
    ∙ ap (λ (x : Bool). record branch { inservice = x }) (sym s)

-- a table that isn't full refuses just a name that it has
pub name_fault-open : (most : ℕ) (names : List (List ℕ)) (name : List ℕ) (there : Bool) → length names < most → has_name names name ≡ there → name_fault most names name ≡ cond there (Some NameTwice) None
name_fault-open most names name there few is = rw (ne_eqb (length names) most (omega arith), is) refl

-- a row that is accepted has a new name
pub new_name : (there : Bool) → cond there (Some NameTwice) None ≡ None → there ≡ false
new_name true is = cc
new_name false is = refl

-- one that is refused has an old one, or memory is wanting
pub old_name : (there : Bool) (fault : AddFault) → Refuses (cond there (Some NameTwice) None) fault → (fault ≡ NoMemory) ⊎ (there ≡ true)
old_name true fault is = inr refl
old_name false NoMemory is = inl refl
old_name false NameTwice is = cc
old_name false UnknownNode is = cc
old_name false UnknownPlace is = cc
old_name false TooMany is = cc
