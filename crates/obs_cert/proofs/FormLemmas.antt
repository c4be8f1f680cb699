-- Which words are which line, and which bytes.
use Rattle.std.proofs.Common.{◌≡◌, ◌⊎◌, ℕ, ◌&&◌, Bool, true, false, cond, List, [], ◌∷◌, length, map, codes, Option, None, Some, option_map, refl, sym, ap, ◌∙◌, subst, inl, inr}
use Rattle.std.specs.Prelude.{nat_le, nat_lt}
use Rattle.std.proofs.lemmas.Bool.{and_from, and_parts}
use Rattle.std.proofs.lemmas.Option.{cond_some}
use Rattle.std.specs.List.{list_all}
use Rattle.std.specs.Str.{all_ascii_digits, bytes_eq}
use Rattle.obs_text.specs.Names.{is_name, is_name_byte}
use Rattle.obs_text.specs.Numbers.{is_whole, value_after, whole_of}
use Rattle.obs_text.proofs.ByteLemmas.{same_bytes}
use Rattle.obs_text.proofs.DecimalLemmas.{digits-name, gate}
use Rattle.obs_cert.specs.Claims.{Item, Pair, meter, candidate}
use Rattle.obs_cert.specs.inner.Forms.{HasForm, Write, claimed_name, sort_word, with_tabs}
use Rattle.obs_cert.specs.inner.Laws.{FormsArePlain, LinesHaveForms}
use Rattle.obs_cert.specs.Words.{Line, tree_line, bound_line, cost_line, shortfall_line, pair_line, chosen_line, layer_line, inside_line, end_line}
use Rattle.obs_cert.specs.Words.{bound_of, claim_line, item_in, layer_of, line_of_words, name_in, of_five, of_four, of_one, of_three, of_two, pair_line_of, shortfall_of, words_of}
use Rattle.obs_cert.proofs.WordLemmas.{with_tabs-words_of, words_of-with_tabs}

-- one of two choices
picked : {A : Type 0} (a : Bool) (x o : Option A) (y : A) → cond a x o ≡ Some y → ((a ≡ true) × (x ≡ Some y)) ⊎ (o ≡ Some y)
picked true x o y is = inl (refl, is)
picked false x o y is = inr is

-- what is made of a part
made : {A B : Type 0} (f : A → B) (o : Option A) (y : B) → option_map f o ≡ Some y → (x : A) × (o ≡ Some x) × (f x ≡ y)
made f None y is = cc
made f (Some x) y is = (x, refl, cc)

-- a word that is the same, before words that are
onto : {word same : List ℕ} {words others : List (List ℕ)} → word ≡ same → words ≡ others → word ∷ words ≡ same ∷ others
onto {same = same} {words = words} first later = ap (λ w. w ∷ words) first ∙ ap (λ ws. same ∷ ws) later

-- a name, and an item by its sort and its name
is_named : (word name : List ℕ) → name_in word ≡ Some name → (word ≡ name) × (is_name name ≡ true)
is_named word name is =
    let both = cond_some (is_name word) word name is in (both.1, subst (λ w. is_name w ≡ true) both.1 both.0)

abbrev IsItem : Item → List ℕ → List ℕ → Type 0
IsItem item sort name = (sort ≡ sort_word item) × (name ≡ claimed_name item) × (is_name (claimed_name item) ≡ true)

is_item : (sort name : List ℕ) (item : Item) → item_in sort name ≡ Some item → IsItem item sort name
is_item sort name item is =
    elim (picked (bytes_eq sort (codes "meter")) (option_map meter (name_in name)) _ item is) [
      | inl m ↦
          let x = made meter (name_in name) item m.1 in
          let n = is_named name x.0 x.1 in
          subst (λ i. IsItem i sort name) x.2 (same_bytes sort (codes "meter") m.0, n.0, n.1)
      | inr other ↦
          elim (picked (bytes_eq sort (codes "candidate")) (option_map candidate (name_in name)) None item other) [
            | inl m ↦
                let x = made candidate (name_in name) item m.1 in
                let n = is_named name x.0 x.1 in
                subst (λ i. IsItem i sort name) x.2 (same_bytes sort (codes "candidate") m.0, n.0, n.1)
            | inr none ↦ absurd (cc none)
          ]
    ]

-- the parts of a line of several
short_parts : (a b : Option ℕ) (line : Line) → shortfall_of a b ≡ Some line
    → (rank : ℕ) × (outside : ℕ) × (a ∷ b ∷ [] ≡ Some rank ∷ Some outside ∷ []) × (shortfall_line rank outside ≡ line)
short_parts None b line is = cc
short_parts (Some rank) None line is = cc
short_parts (Some rank) (Some outside) line is = (rank, outside, refl, cc)

bound_parts : (name : Option (List ℕ)) (a b : Option ℕ) (line : Line) → bound_of name a b ≡ Some line
    → (component : List ℕ) × (rank : ℕ) × (outside : ℕ) × (name ≡ Some component) × (a ∷ b ∷ [] ≡ Some rank ∷ Some outside ∷ [])
    × (bound_line component rank outside ≡ line)
bound_parts None a b line is = cc
bound_parts (Some component) None b line is = cc
bound_parts (Some component) (Some rank) None line is = cc
bound_parts (Some component) (Some rank) (Some outside) line is = (component, rank, outside, refl, refl, cc)

pair_parts : (item : Option Item) (name : Option (List ℕ)) (line : Line) → pair_line_of item name ≡ Some line
    → (pair : Pair) × (item ≡ Some pair.item) × (name ≡ Some pair.branch) × (pair_line pair ≡ line)
pair_parts None name line is = cc
pair_parts (Some item) None line is = cc
pair_parts (Some item) (Some branch) line is = (record { item = item; branch = branch }, refl, refl, cc)

layer_parts : (a b c d : Option ℕ) (line : Line) → layer_of a b c d ≡ Some line
    → (from : ℕ) × (to : ℕ) × (rank : ℕ) × (outside : ℕ) × (a ∷ b ∷ c ∷ d ∷ [] ≡ Some from ∷ Some to ∷ Some rank ∷ Some outside ∷ [])
    × (layer_line from to rank outside ≡ line)
layer_parts None b c d line is = cc
layer_parts (Some from) None c d line is = cc
layer_parts (Some from) (Some to) None d line is = cc
layer_parts (Some from) (Some to) (Some rank) None line is = cc
layer_parts (Some from) (Some to) (Some rank) (Some outside) line is = (from, to, rank, outside, refl, cc)

-- a kind and a name
one_name : (line_for : List ℕ → Line) (word kind a : List ℕ) (line : Line) → bytes_eq kind word ≡ true → option_map line_for (name_in a) ≡ Some line
    → (name : List ℕ) × (line_for name ≡ line) × (kind ∷ a ∷ [] ≡ word ∷ name ∷ []) × (is_name name ≡ true)
one_name line_for word kind a line same is =
    let x = made line_for (name_in a) line is in
    let n = is_named a x.0 x.1 in
    (x.0, x.2, onto (same_bytes kind word same) (onto n.0 refl), n.1)

-- words that are a line have its form
one_word : (kind : List ℕ) (line : Line) → of_one kind ≡ Some line → HasForm line (kind ∷ [])
one_word kind line is =
    let both = cond_some (bytes_eq kind (codes "end")) end_line line is in
    subst (λ l. HasForm l (kind ∷ [])) both.1 (onto (same_bytes kind (codes "end") both.0) refl)

two_words : (kind a : List ℕ) (line : Line) → of_two kind a ≡ Some line → HasForm line (kind ∷ a ∷ [])
two_words kind a line is =
    let Form = λ (l : Line). HasForm l (kind ∷ a ∷ []) in
    elim (picked (bytes_eq kind (codes "tree")) (option_map tree_line (name_in a)) _ line is) [
      | inl t ↦ (let n = one_name tree_line (codes "tree") kind a line t.0 t.1 in subst Form n.1 (n.2, n.3))
      | inr other ↦
          elim (picked (bytes_eq kind (codes "cost")) (option_map cost_line (whole_of a)) _ line other) [
            | inl t ↦
                let x = made cost_line (whole_of a) line t.1 in
                subst Form x.2 (a ∷ [], onto (same_bytes kind (codes "cost") t.0) refl, ap (λ o. o ∷ []) x.1)
            | inr last ↦
                let t = gate (bytes_eq kind (codes "chosen")) (option_map chosen_line (name_in a)) line last in
                let n = one_name chosen_line (codes "chosen") kind a line t.0 t.1 in
                subst Form n.1 (n.2, n.3)
          ]
    ]

three_words : (kind a b : List ℕ) (line : Line) → of_three kind a b ≡ Some line → HasForm line (kind ∷ a ∷ b ∷ [])
three_words kind a b line is =
    let Form = λ (l : Line). HasForm l (kind ∷ a ∷ b ∷ []) in
    elim (picked (bytes_eq kind (codes "inside")) (option_map inside_line (item_in a b)) _ line is) [
      | inl t ↦
          let x = made inside_line (item_in a b) line t.1 in
          let i = is_item a b x.0 x.1 in
          let first = same_bytes kind (codes "inside") t.0 in
          subst Form x.2 (onto first (onto i.0 (onto i.1 refl)), i.2)
      | inr other ↦
          let t = gate (bytes_eq kind (codes "shortfall")) (shortfall_of (whole_of a) (whole_of b)) line other in
          let s = short_parts (whole_of a) (whole_of b) line t.1 in
          subst Form s.3 (a ∷ b ∷ [], onto (same_bytes kind (codes "shortfall") t.0) refl, s.2)
    ]

four_words : (kind a b c : List ℕ) (line : Line) → of_four kind a b c ≡ Some line → HasForm line (kind ∷ a ∷ b ∷ c ∷ [])
four_words kind a b c line is =
    let Form = λ (l : Line). HasForm l (kind ∷ a ∷ b ∷ c ∷ []) in
    elim (picked (bytes_eq kind (codes "pair")) (pair_line_of (item_in a b) (name_in c)) _ line is) [
      | inl t ↦
          let p = pair_parts (item_in a b) (name_in c) line t.1 in
          let i = is_item a b p.0.item p.1 in
          let n = is_named c p.0.branch p.2 in
          let first = same_bytes kind (codes "pair") t.0 in
          subst Form p.3 (onto first (onto i.0 (onto i.1 (onto n.0 refl))), i.2, n.1)
      | inr other ↦
          let t = gate (bytes_eq kind (codes "bound")) (bound_of (name_in a) (whole_of b) (whole_of c)) line other in
          let s = bound_parts (name_in a) (whole_of b) (whole_of c) line t.1 in
          let n = is_named a s.0 s.3 in
          let first = same_bytes kind (codes "bound") t.0 in
          subst Form s.5 (b ∷ c ∷ [], onto first (onto n.0 refl), n.1, s.4)
    ]

five_words : (kind a b c d : List ℕ) (line : Line) → of_five kind a b c d ≡ Some line → HasForm line (kind ∷ a ∷ b ∷ c ∷ d ∷ [])
five_words kind a b c d line is =
    let t = gate (bytes_eq kind (codes "layer")) (layer_of (whole_of a) (whole_of b) (whole_of c) (whole_of d)) line is in
    let s = layer_parts (whole_of a) (whole_of b) (whole_of c) (whole_of d) line t.1 in
    subst (λ l. HasForm l (kind ∷ a ∷ b ∷ c ∷ d ∷ [])) s.5
    (a ∷ b ∷ c ∷ d ∷ [], onto (same_bytes kind (codes "layer") t.0) refl, s.4)

form_of_words : (words : List (List ℕ)) (line : Line) → line_of_words words ≡ Some line → HasForm line words
form_of_words [] line is = cc
form_of_words (kind ∷ []) line is = one_word kind line is
form_of_words (kind ∷ a ∷ []) line is = two_words kind a line is
form_of_words (kind ∷ a ∷ b ∷ []) line is = three_words kind a b line is
form_of_words (kind ∷ a ∷ b ∷ c ∷ []) line is = four_words kind a b c line is
form_of_words (kind ∷ a ∷ b ∷ c ∷ d ∷ []) line is = five_words kind a b c d line is
form_of_words (kind ∷ a ∷ b ∷ c ∷ d ∷ e ∷ words) line is = cc

-- a name is read, and an item
name_back : (name : List ℕ) → is_name name ≡ true → name_in name ≡ Some name
name_back name is = rw is refl

item_back : (item : Item) → is_name (claimed_name item) ≡ true → item_in (sort_word item) (claimed_name item) ≡ Some item
item_back (meter name) is = ap (option_map meter) (name_back name is)
item_back (candidate name) is = ap (option_map candidate) (name_back name is)

-- digits that write numbers are so many words
first_number : (digits : List (List ℕ)) (n : ℕ) (numbers : List ℕ) → Write digits (n ∷ numbers)
    → (a : List ℕ) × (others : List (List ℕ)) × (digits ≡ a ∷ others) × (whole_of a ≡ Some n) × Write others numbers
first_number [] n numbers w = cc
first_number (a ∷ others) n numbers w =
    let both : whole_of a ∷ map whole_of others ≡ Some n ∷ map Some numbers = w in (a, others, refl, cc, cc)

no_number : (digits : List (List ℕ)) → Write digits [] → digits ≡ []
no_number [] w = refl
no_number (a ∷ others) w = cc

one_number : (digits : List (List ℕ)) (n : ℕ) → Write digits (n ∷ []) → (a : List ℕ) × (digits ≡ a ∷ []) × (whole_of a ≡ Some n)
one_number digits n w =
    let x = first_number digits n [] w in (x.0, x.2 ∙ ap (λ others. x.0 ∷ others) (no_number x.1 x.4), x.3)

two_numbers : (digits : List (List ℕ)) (m n : ℕ) → Write digits (m ∷ n ∷ [])
    → (a : List ℕ) × (b : List ℕ) × (digits ≡ a ∷ b ∷ []) × (whole_of a ≡ Some m) × (whole_of b ≡ Some n)
two_numbers digits m n w =
    let x = first_number digits m (n ∷ []) w in
    let y = one_number x.1 n x.4 in
    (x.0, y.0, x.2 ∙ ap (λ others. x.0 ∷ others) y.1, x.3, y.2)

-- words of a form are its line
line_of_form : (line : Line) (words : List (List ℕ)) → HasForm line words → line_of_words words ≡ Some line
line_of_form (tree_line name) words form = ap line_of_words form.0 ∙ ap (option_map tree_line) (name_back name form.1)
line_of_form (chosen_line name) words form = ap line_of_words form.0 ∙ ap (option_map chosen_line) (name_back name form.1)
line_of_form (inside_line item) words form = ap line_of_words form.0 ∙ ap (option_map inside_line) (item_back item form.1)
line_of_form end_line words form = ap line_of_words form
line_of_form (cost_line number) words form =
    let x = one_number form.0 number form.2 in
    ap line_of_words (form.1 ∙ ap (λ digits. codes "cost" ∷ digits) x.1) ∙ ap (option_map cost_line) x.2
line_of_form (shortfall_line rank outside) words form =
    let x = two_numbers form.0 rank outside form.2 in
    ap line_of_words (form.1 ∙ ap (λ digits. codes "shortfall" ∷ digits) x.2)
    ∙ (ap (λ o. shortfall_of o (whole_of x.1)) x.3 ∙ ap (shortfall_of (Some rank)) x.4)
line_of_form (bound_line name rank outside) words form =
    let x = two_numbers form.0 rank outside form.3 in
    ap line_of_words (form.1 ∙ ap (λ digits. codes "bound" ∷ name ∷ digits) x.2)
    ∙ (ap (λ o. bound_of o (whole_of x.0) (whole_of x.1)) (name_back name form.2)
    ∙ (ap (λ o. bound_of (Some name) o (whole_of x.1)) x.3 ∙ ap (bound_of (Some name) (Some rank)) x.4))
line_of_form (pair_line pair) words form =
    ap line_of_words form.0
    ∙ (ap (λ o. pair_line_of o (name_in pair.branch)) (item_back pair.item form.1)
    ∙ ap (pair_line_of (Some pair.item)) (name_back pair.branch form.2))
line_of_form (layer_line from to rank outside) words form =
    let x = first_number form.0 from (to ∷ rank ∷ outside ∷ []) form.2 in
    let y = first_number x.1 to (rank ∷ outside ∷ []) x.4 in
    let z = two_numbers y.1 rank outside y.4 in
    let are : form.0 ≡ x.0 ∷ y.0 ∷ z.0 ∷ z.1 ∷ [] =
    x.2 ∙ ap (λ others. x.0 ∷ others) (y.2 ∙ ap (λ others. y.0 ∷ others) z.2) in
    ap line_of_words (form.1 ∙ ap (λ digits. codes "layer" ∷ digits) are)
    ∙ (ap (λ o. layer_of o (whole_of y.0) (whole_of z.0) (whole_of z.1)) x.3
    ∙ (ap (λ o. layer_of (Some from) o (whole_of z.0) (whole_of z.1)) y.3
    ∙ (ap (λ o. layer_of (Some from) (Some to) o (whole_of z.1)) z.3 ∙ ap (layer_of (Some from) (Some to) (Some rank)) z.4)))

-- names and digits have no control byte
plain_name : (name : List ℕ) → is_name name ≡ true → list_all is_name_byte name ≡ true
plain_name name is = (and_parts (nat_lt 0 (length name) && nat_le (length name) 64) (list_all is_name_byte name) is).1

plain_number : (word : List ℕ) (n : ℕ) → whole_of word ≡ Some n → list_all is_name_byte word ≡ true
plain_number word n is =
    let whole = gate (is_whole word) (Some (value_after 0 word)) n is in
    digits-name word (and_parts (nat_lt 0 (length word) && nat_le (length word) 19) (all_ascii_digits word) whole.0).1

plain_numbers : (digits : List (List ℕ)) (numbers : List ℕ) → Write digits numbers → list_all (list_all is_name_byte) digits ≡ true
plain_numbers [] numbers w = refl
plain_numbers (a ∷ others) [] w = cc
plain_numbers (a ∷ others) (n ∷ numbers) w =
    let both : whole_of a ∷ map whole_of others ≡ Some n ∷ map Some numbers = w in
    and_from (list_all is_name_byte a) (list_all (list_all is_name_byte) others) (plain_number a n cc) (plain_numbers others numbers cc)

plain_sort : (item : Item) → list_all is_name_byte (sort_word item) ≡ true
plain_sort (meter name) = refl
plain_sort (candidate name) = refl

-- words before plain words
plain_more : (word : List ℕ) (words : List (List ℕ)) → list_all is_name_byte word ≡ true → list_all (list_all is_name_byte) words ≡ true
    → list_all (list_all is_name_byte) (word ∷ words) ≡ true
plain_more word words first others = and_from (list_all is_name_byte word) (list_all (list_all is_name_byte) words) first others

plain_last : (word : List ℕ) → list_all is_name_byte word ≡ true → list_all (list_all is_name_byte) (word ∷ []) ≡ true
plain_last word first = plain_more word [] first refl

pub FormsArePlain-holds : FormsArePlain
FormsArePlain-holds (tree_line name) words form = rw form.0 (plain_last name (plain_name name form.1))
FormsArePlain-holds (chosen_line name) words form = rw form.0 (plain_last name (plain_name name form.1))
FormsArePlain-holds (cost_line number) words form = rw form.1 (plain_numbers form.0 (number ∷ []) form.2)
FormsArePlain-holds (shortfall_line rank outside) words form = rw form.1 (plain_numbers form.0 (rank ∷ outside ∷ []) form.2)
FormsArePlain-holds (layer_line from to rank outside) words form = rw form.1 (plain_numbers form.0 (from ∷ to ∷ rank ∷ outside ∷ []) form.2)
FormsArePlain-holds (bound_line name rank outside) words form =
    rw form.1 (plain_more name form.0 (plain_name name form.2) (plain_numbers form.0 (rank ∷ outside ∷ []) form.3))
FormsArePlain-holds (inside_line item) words form =
    rw form.0 (plain_more (sort_word item) (claimed_name item ∷ []) (plain_sort item) (plain_last (claimed_name item) (plain_name (claimed_name item) form.1)))
FormsArePlain-holds (pair_line pair) words form =
    let branch = plain_last pair.branch (plain_name pair.branch form.2) in
    let name = plain_more (claimed_name pair.item) (pair.branch ∷ []) (plain_name (claimed_name pair.item) form.1) branch in
    rw form.0 (plain_more (sort_word pair.item) (claimed_name pair.item ∷ pair.branch ∷ []) (plain_sort pair.item) name)
FormsArePlain-holds end_line words form = rw form refl

-- and so bytes that are such words are their line
of_words : (words : List (List ℕ)) (line : Line) → HasForm line words → claim_line (with_tabs words) ≡ Some line
of_words [] line form = let none = line_of_form line [] form in cc
of_words (word ∷ words) line form =
    ap line_of_words (words_of-with_tabs word words (FormsArePlain-holds line (word ∷ words) form)) ∙ line_of_form line (word ∷ words) form

pub LinesHaveForms-holds : LinesHaveForms
LinesHaveForms-holds bytes line = (
  λ is. (words_of bytes, form_of_words (words_of bytes) line is, sym (with_tabs-words_of bytes)),
  λ has. ap claim_line has.2 ∙ of_words has.0 line has.1,
)
