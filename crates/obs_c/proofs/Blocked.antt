-- A run over blocks: what it is told, that no read fails, and how it ends.
use Rattle.std.proofs.Common.{◌≡◌, ℕ, ◌+◌, ◌≤◌, min, List, [], ◌∷◌, length, Option, Some, inl, inr, sym, ap, ◌∙◌, subst, arith}
use Rattle.std.proofs.lemmas.List.{length-map}
use Rattle.std.specs.Prelude.{String, map, string_bytes}
use Rattle.obs_c.specs.Blocks.{AreLengths}
use Rattle.obs_files.specs.declared.status.Status.{Status}
use Rattle.obs_engine.specs.Ending.{Ends}
use Rattle.obs_engine.specs.Forms.{AnyReadFailed}
use Rattle.obs_files.specs.Limits.{Limits}
use Rattle.obs_files.specs.Outside.{AreTold}
use Rattle.obs_engine.specs.Stated.{Tells, Told}
use Rattle.obs_files.specs.Words.{file_words, form_of}

told_all : (limits : Limits) (content : ℕ → Option (List ℕ)) (file : ℕ → List ℕ) → ((w : ℕ) → content w ≡ Some (file w)) → (words : List ℕ) → AreTold limits content file words
told_all limits content file are [] = tt
told_all limits content file are (w ∷ words) = (are w, λ fits. told_all limits content file are words)

-- the blocks are told
pub tells : (limits : Limits) (words : List (List ℕ)) (told : Told) (content : ℕ → Option (List ℕ)) (left : Option (List ℕ)) → told.limits ≡ limits → ((w : ℕ) → content w ≡ Some (told.file w))
    → left ≡ Some told.input → Tells limits (form_of words) content left told
tells limits words told content left held are is = record { limited = held; files = told_all limits content told.file are (file_words (form_of words)); input = λ takes. is }

-- a count that stays 0 hasn't risen
not_risen : (before now : ℕ) → min (before + 1) 18446744073709551615 ≤ now → now ≡ 0 → ⊥
not_risen before now rose none = omega (arith, rose, none)

pub none_failed : (limits : Limits) (words : List (List ℕ)) (content : ℕ → Option (List ℕ)) (before now : ℕ → ℕ) (left left_now : Option (List ℕ)) (input_before input_now : ℕ) (written written_now : Option (List ℕ))
    → ((w : ℕ) → now w ≡ 0) → input_now ≡ 0
    → AnyReadFailed limits (form_of words) content before now left left_now input_before input_now written written_now → ⊥
none_failed limits words content before now left left_now input_before input_now written written_now none no_input (inl file) =
    not_risen (before file.file.word) (now file.file.word) file.file.rose (none file.file.word)
none_failed limits words content before now left left_now input_before input_now written written_now none no_input (inr input) =
    not_risen input_before input_now input.rose no_input

-- how the run ends, where its words are those of the block
pub ends_in : (limits : Limits) (list words : List (List ℕ)) (told : Told) (content : ℕ → Option (List ℕ)) (left left_now : Option (List ℕ)) (status : Status) (before after start end : Option (List ℕ))
    → told.limits ≡ limits → list ≡ words → ((w : ℕ) → content w ≡ Some (told.file w)) → left ≡ Some told.input → before ≡ start → after ≡ end
    → ((t : Told) → Tells limits (form_of list) content left t → Ends (form_of list) t left_now status before after)
    → Ends (form_of words) told left_now status start end
ends_in limits list words told content left left_now status before after start end held same are is none all stated =
    subst (λ (l : List (List ℕ)). Ends (form_of l) told left_now status start end) same
    (subst (λ (b : Option (List ℕ)). Ends (form_of list) told left_now status b end) none
    (subst (λ (a : Option (List ℕ)). Ends (form_of list) told left_now status before a) all (stated told (tells limits list told content left held are is))))

-- lengths for as many words as were listed
pub lengths_of : {A : Type 0} (words : List (List ℕ)) (list : List (String A)) (contents lengths : List ℕ) (count : ℕ) → map string_bytes list ≡ words → count ≡ length list
    → AreLengths count contents lengths → AreLengths (length words) contents lengths
lengths_of words list contents lengths count same counted are = record {
  one_each = are.one_each ∙ counted ∙ sym (length-map list string_bytes) ∙ ap (λ ws. length ws) same;
  all = are.all;
}
