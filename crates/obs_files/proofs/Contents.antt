-- Files that are taken one after the other, and the case that their contents are.
use Rattle.std.proofs.Common.{ℕ, zero, suc, ◌≡◌, ◌≢◌, ◌∙◌, ◌+◌, ◌<◌, ◌≤◌, ◌⊎◌, ap, refl, sym, subst, true, false, List, [], ◌∷◌, ◌++◌, length, map, take, drop, get_or, add-one, Option, Some, Result, Ok, Err, inl, inr, arith, Vec}
use Rattle.std.specs.Prelude.{All, IsErrAnd, vec_len}
use Rattle.std.specs.List.{range_with_len}
use Rattle.std.specs.declared.alloc.Global.{Global}
use Rattle.std.proofs.Math.Seq.{take-append_seam, take-length}
use Rattle.std.proofs.lemmas.List.{get_or-map, get_or-take, length-map, map-append, take-append-drop}
use Rattle.std.proofs.lemmas.List.FromFn.{get_or-map-range_with_len, length-range_with_len}
use Rattle.obs_io.specs.Causes.{Rose}
use Rattle.obs_matroid.specs.Lists.{In}
use Rattle.obs_text.specs.Faults.{Fault, too_long}
use Rattle.obs_text.specs.inner.Faults.{fault_of}
use Rattle.obs_files.specs.declared.taken.Taken.{Taken}
use Rattle.obs_files.specs.declared.taken.CaseError.{CaseError}
use Rattle.obs_files.specs.declared.taken.CaseError.TheVariants.{Refused, Read, NoMemory}
use Rattle.obs_text.specs.declared.faults.InputFault.{InputFault}
use Rattle.obs_case.specs.Tables.{Tables}
use Rattle.obs_case_csv.specs.Read.{tables_after}
use Rattle.obs_ieee_cdf.specs.Faults.{cdf_fault}
use Rattle.obs_ieee_cdf.specs.Rows.{cdf_within}
use Rattle.obs_case_csv.specs.declared.faults.TableFault.{TableFault}
use Rattle.obs_matpower.specs.declared.fault.MatEnd.{MatEnd}
use Rattle.obs_matpower.specs.declared.fault.MatEnd.TheVariants.{Mat}
use Rattle.obs_matpower.specs.declared.fault.MatFault.{MatFault}
use Rattle.obs_matpower.specs.Faults.{mat_fault}
use Rattle.obs_matpower.specs.Read.{mat_within}
use Rattle.obs_matpower.specs.inner.Read.{EndsCase}
use Rattle.obs_matpower.specs.Read as mat
use Rattle.obs_trial.specs.Trial.{trial_of}
use Rattle.obs_files.specs.declared.words.CaseForm.{CaseForm}
use Rattle.obs_files.specs.declared.words.CaseForm.TheVariants.{Cdf, Matpower}
use Rattle.obs_files.specs.declared.words.CaseCommand.{CaseCommand}
use Rattle.obs_files.specs.declared.words.Form.{Form}
use Rattle.obs_files.specs.declared.words.Form.TheVariants.{Topology, Case, Trial}
use Rattle.obs_files.specs.Files.{candidates_in, case_in, case_in_files, case_with_tables, first_too_long, is_too_long, parsed, switching_case, unless_fault}
use Rattle.obs_files.specs.Limits.{Limits}
use Rattle.obs_files.specs.Outside.{AreTold, ReadFailed}
use Rattle.obs_files.specs.inner.Taken.{AreContents, IsNext, IsOfFiles, IsTaken, IsCaseError, bytes_of}
use Rattle.obs_files.specs.Words.{candidates_at, case_parts, certificate_at, is_offered, item_if, parts_of, takes_certificate, words_of}
use Rattle.obs_files.proofs.Taking.{Fits}

-- one element more of a front
front_more : {X : Type 0} (xs : List X) (k : ℕ) (x : X) (rest : List X) → drop k xs ≡ x ∷ rest → take (suc k) xs ≡ take k xs ++ (x ∷ [])
front_more [] zero x rest e = absurd cc
front_more [] (suc k) x rest e = absurd cc
front_more (y ∷ ys) zero x rest e = (let same : y ≡ x = cc e in ap (λ z. z ∷ []) same)
front_more (y ∷ ys) (suc k) x rest e = ap (λ zs. y ∷ zs) (front_more ys k x rest e)

in_parts : (w : ℕ) (xs ys : List ℕ) → In w (xs ++ ys) → In w xs ⊎ In w ys
in_parts w [] ys i = inr i
in_parts w (x ∷ xs) ys (inl e) = inl (inl e)
in_parts w (x ∷ xs) ys (inr i) = elim (in_parts w xs ys i) [ inl h ↦ inl (inr h) | inr h ↦ inr h ]

-- the files of these words are these parts of the input, and what was told of them before
module _ (limits : Limits) (parts : List (List ℕ)) (words : List ℕ) (content : ℕ → Option (List ℕ)) (before : ℕ → ℕ) (is_steady : ℕ → Type 0) where
  -- the contents of the first k of them were taken
  abbrev pub IsTakenTo : ℕ → (ℕ → List ℕ) → List (Vec ℕ Global) → Type 0
  IsTakenTo k file contents =
      AreTold limits content file (drop k words)
      × (first_too_long limits parts file words ≡ first_too_long limits (drop k parts) file (drop k words))
      × (bytes_of contents ≡ map file (take k words))

  pub record Reading (k : ℕ) (content_now : ℕ → Option (List ℕ)) (now : ℕ → ℕ) (is_steady_now : ℕ → Type 0) (contents : List (Vec ℕ Global)) : Type 0 where
    pub same : (w : ℕ) → content_now w ≡ content w
    pub quiet : (w : ℕ) → now w ≡ before w
    pub calm : (w : ℕ) → is_steady w → is_steady_now w
    pub count : length contents ≡ k
    pub short : All (λ (bytes : Vec ℕ Global). vec_len bytes ≤ limits.bytes) contents
    pub fits : (w : ℕ) → In w (take k words) → Fits limits content w
    pub taken : (file : ℕ → List ℕ) → AreTold limits content file words → IsTakenTo k file contents

  -- the next word, and the part that its file is
  module _ {k : ℕ} {content_now : ℕ → Option (List ℕ)} {now : ℕ → ℕ} {is_steady_now : ℕ → Type 0} {contents : List (Vec ℕ Global)}
      (r : Reading k content_now now is_steady_now contents) (word : ℕ) (part : List ℕ) (here : drop k words ≡ word ∷ drop (suc k) words)
      (part_here : drop k parts ≡ part ∷ drop (suc k) parts) where
    abbrev told_here : (file : ℕ → List ℕ) → AreTold limits content file words
        → (content word ≡ Some (file word)) × (is_too_long limits (file word) ≡ false → AreTold limits content file (drop (suc k) words))
    told_here file told = subst (λ (ws : List ℕ). AreTold limits content file ws) here (r.taken file told).0

    fault_from : (file : ℕ → List ℕ) → AreTold limits content file words → first_too_long limits parts file words ≡ first_too_long limits (part ∷ drop (suc k) parts) file (word ∷ drop (suc k) words)
    fault_from file told =
        (r.taken file told).1
        ∙ (ap (λ (ps : List (List ℕ)). first_too_long limits ps file (drop k words)) part_here ∙ ap (λ (ws : List ℕ). first_too_long limits (part ∷ drop (suc k) parts) file ws) here)

    -- what is told of the next file
    next_told : (file : ℕ → List ℕ) → AreTold limits content file words → content_now word ≡ Some (file word)
    next_told file told = r.same word ∙ (told_here file told).0

    pub reading_goes_on : {content_next : ℕ → Option (List ℕ)} {next : ℕ → ℕ} {is_steady_next : ℕ → Type 0} {more : List (Vec ℕ Global)}
        → ((bytes : List ℕ) → content_now word ≡ Some bytes → IsNext limits part bytes (bytes_of contents) (bytes_of more) (Ok tt))
        → ((w : ℕ) → content_next w ≡ content_now w) → ((w : ℕ) → next w ≡ now w) → ((w : ℕ) → is_steady_now w → is_steady_next w)
        → length more ≡ length contents + 1 → All (λ (bytes : Vec ℕ Global). vec_len bytes ≤ limits.bytes) more
        → Reading (k + 1) content_next next is_steady_next more
    reading_goes_on {content_next = content_next} {next = next} {is_steady_next = is_steady_next} {more = more} stated same quiet calm count short =
        subst (λ (n : ℕ). Reading n content_next next is_steady_next more) (sym (add-one k)) one_more
      where
        one_more : Reading (suc k) content_next next is_steady_next more
        one_more = record {
          same = λ w. same w ∙ r.same w;
          quiet = λ w. quiet w ∙ r.quiet w;
          calm = λ w s. calm w (r.calm w s);
          count = (let c = r.count in omega (arith, count, c));
          short = short;
          fits = λ w i. elim (in_parts w (take k words) (word ∷ []) (subst (λ (ws : List ℕ). In w ws) (front_more words k word (drop (suc k) words) here) i)) [
            | inl h ↦ r.fits w h
            | inr h ↦ elim h [
              | inl e ↦ λ bytes is. (stated bytes (r.same word ∙ subst (λ (v : ℕ). content v ≡ Some bytes) e is)).1
              | inr n ↦ elim n [ ]
            ]
          ];
          taken = λ file told.
              let next = stated (file word) (next_told file told) in
              let fit : is_too_long limits (file word) ≡ false = next.1 in (
                (told_here file told).1 fit,
                fault_from file told ∙ rw fit refl,
                next.0
                    ∙ (ap (λ (xs : List (List ℕ)). xs ++ (file word ∷ [])) (r.taken file told).2
                    ∙ (sym (map-append file (take k words) (word ∷ [])) ∙ ap (λ (ws : List ℕ). map file ws) (sym (front_more words k word (drop (suc k) words) here)))),
              );
        }

    -- the next file is too long
    pub reading_refused : (why : Fault) → ((bytes : List ℕ) → content_now word ≡ Some bytes → (is_too_long limits bytes ≡ true) × (why ≡ too_long part))
        → (file : ℕ → List ℕ) → AreTold limits content file words → first_too_long limits parts file words ≡ Some why
    reading_refused why stated file told =
        let next = stated (file word) (next_told file told) in
        let long : is_too_long limits (file word) ≡ true = next.0 in
        fault_from file told ∙ (rw long refl ∙ ap Some (sym next.1))

    -- it couldn't be read
    pub reading_failed : {after : ℕ → ℕ} → Rose (now word) (after word) → ((w : ℕ) → w ≢ word → after w ≡ now w) → ReadFailed limits words content before after
    reading_failed {after = after} rose others = record {
      word = word;
      before_it = take k words;
      behind_it = drop (suc k) words;
      named = sym (take-append-drop k words) ∙ ap (λ (ws : List ℕ). take k words ++ ws) here;
      rose = subst (λ (n : ℕ). Rose n (after word)) (r.quiet word) rose;
      others = λ w ne. others w ne ∙ r.quiet w;
      fits = r.fits;
    }

-- an error that ends the reading
pub contents_not_taken : (limits : Limits) (parts : List (List ℕ)) (file : ℕ → List ℕ) (words : List ℕ) (why : CaseError) (r : Result (Vec (Vec ℕ Global) Global) CaseError) → IsErrAnd r (λ e. e ≡ why)
    → ((fault : InputFault) → why ≡ Refused fault → first_too_long limits parts file words ≡ Some (fault_of fault)) → AreContents limits parts file words r
contents_not_taken limits parts file words why (Ok x) e h = absurd e
contents_not_taken limits parts file words why (Err (Refused fault)) e h = h fault (sym e)
contents_not_taken limits parts file words why (Err Read) e h = tt
contents_not_taken limits parts file words why (Err NoMemory) e h = tt

-- no case is taken from such files
pub case_not_taken : (limits : Limits) (form : Form) (file : ℕ → List ℕ) (why : CaseError) (r : Result Taken CaseError) → IsErrAnd r (λ e. e ≡ why)
    → AreContents limits (parts_of form) file (words_of form) (Err why) → IsOfFiles limits form file r
case_not_taken limits form file why (Ok x) e h = absurd e
case_not_taken limits form file why (Err x) e h = subst (λ (u : CaseError). IsCaseError (case_in_files limits form file) u) (sym e) (by why h)
  where
    by : (w : CaseError) → AreContents limits (parts_of form) file (words_of form) (Err w) → IsCaseError (case_in_files limits form file) w
    by (Refused fault) f = ap (λ (o : Option Fault). unless_fault o (parsed limits form file)) f
    by Read f = tt
    by NoMemory f = tt

-- the content at a place, of contents that begin with those of n files
content_at : (contents : List (Vec ℕ Global)) (file : ℕ → List ℕ) (first n k : ℕ) (d : Vec ℕ Global) → take n (bytes_of contents) ≡ map file (range_with_len first n) → n ≤ length contents → k < n
    → (get_or contents k d).items ≡ file (first + k)
content_at contents file first n k d e count low =
    sym (get_or-map (λ (content : Vec ℕ Global). content.items) contents k d [] (omega (arith, count, low)))
    ∙ (sym (get_or-take n (bytes_of contents) k [] low) ∙ (ap (λ (xs : List (List ℕ)). get_or xs k []) e ∙ get_or-map-range_with_len file first n k (first + k) [] low refl))

-- all contents are the first so many
whole_front : (xs : List (List ℕ)) (n : ℕ) → length xs ≡ n → take n xs ≡ xs
whole_front xs n l = rw (sym l) (take-length xs)

-- the bytes that were handed on are those of a file
module _ (contents : List (Vec ℕ Global)) (file : ℕ → List ℕ) (first n : ℕ) (told : take n (bytes_of contents) ≡ map file (range_with_len first n)) (count : n ≤ length contents) where
  handed : (k : ℕ) (x : Vec ℕ Global) (a : List ℕ) → x ≡ get_or contents k x → a ≡ x.items → k < n → a ≡ file (first + k)
  handed k x a is same low = same ∙ (ap (λ (v : Vec ℕ Global). v.items) is ∙ content_at contents file first n k x told count low)

-- the two files of `topology`
topology_at : (limits : Limits) (contents : List (Vec ℕ Global)) (file : ℕ → List ℕ) (x y : Vec ℕ Global) (a b : List ℕ) (r : Result Tables CaseError)
    → x ≡ get_or contents 0 x → y ≡ get_or contents 1 y → a ≡ x.items → b ≡ y.items → IsTaken (switching_case limits.rows a b) r
    → length contents ≡ 2 → bytes_of contents ≡ map file (words_of Topology) → IsTaken (parsed limits Topology file) r
unfolding parsed
topology_at limits contents file x y a b r xi yi ax by taken count told =
    let front = whole_front (bytes_of contents) 2 (length-map contents (λ (content : Vec ℕ Global). content.items) ∙ count) ∙ told in
    let some : 2 ≤ length contents = omega (arith, count) in
    let one : a ≡ file 1 = handed contents file 1 2 front some 0 x a xi ax (omega arith) in
    let two : b ≡ file 2 = handed contents file 1 2 front some 1 y b yi by (omega arith) in
    subst (λ (u : List ℕ). IsTaken (switching_case limits.rows u (file 2)) r) one (subst (λ (u : List ℕ). IsTaken (switching_case limits.rows a u) r) two taken)

pub topology_taken : (limits : Limits) (most : ℕ) → most ≡ limits.rows → (form : Form) (contents : List (Vec ℕ Global)) (file : ℕ → List ℕ) (x y : Vec ℕ Global) (a b : List ℕ) (r : Result Tables CaseError) → form ≡ Topology
    → x ≡ get_or contents 0 x → y ≡ get_or contents 1 y → a ≡ x.items → b ≡ y.items → IsTaken (switching_case most a b) r
    → length contents ≡ length (words_of form) → bytes_of contents ≡ map file (words_of form) → IsTaken (parsed limits form file) r
topology_taken limits most is form contents file x y a b r e xi yi ax by taken =
    subst (λ (f : Form). length contents ≡ length (words_of f) → bytes_of contents ≡ map file (words_of f) → IsTaken (parsed limits f file) r) (sym e)
    (topology_at limits contents file x y a b r xi yi ax by (subst (λ (n : ℕ). IsTaken (switching_case n a b) r) is taken))

-- the two files of a case that is no table
module _ (most : ℕ) (contents : List (Vec ℕ Global)) (file : ℕ → List ℕ) (x y : Vec ℕ Global) (a b : List ℕ)
    (xi : x ≡ get_or contents 0 x) (yi : y ≡ get_or contents 1 y) (ax : a ≡ x.items) (by : b ≡ y.items) where
  two_at : (P : List ℕ → List ℕ → Type 0) → P a b → 2 ≤ length contents → take 2 (bytes_of contents) ≡ map file (range_with_len 2 2) → P (file 2) (file 3)
  two_at P taken some front =
      let one : a ≡ file 2 = handed contents file 2 2 front some 0 x a xi ax (omega arith) in
      let two : b ≡ file 3 = handed contents file 2 2 front some 1 y b yi by (omega arith) in
      subst (λ (u : List ℕ). P u (file 3)) one (subst (λ (u : List ℕ). P a u) two taken)

  pub cdf_taken : (from : CaseForm) (candidates : Option (List ℕ)) (r : Result Tables CaseError) → from ≡ Cdf → IsTaken (case_with_tables cdf_fault b candidates (cdf_within most a)) r
      → length (case_parts from) ≤ length contents → take (length (case_parts from)) (bytes_of contents) ≡ map file (range_with_len 2 (length (case_parts from))) → IsTaken (case_in most from candidates file) r
  cdf_taken from candidates r e taken =
      subst (λ (f : CaseForm). length (case_parts f) ≤ length contents → take (length (case_parts f)) (bytes_of contents) ≡ map file (range_with_len 2 (length (case_parts f))) → IsTaken (case_in most f candidates file) r) (sym e)
      (two_at (λ u v. IsTaken (case_with_tables cdf_fault v candidates (cdf_within most u)) r) taken)

  pub mat_taken : (from : CaseForm) (candidates : Option (List ℕ)) (r : Result Tables CaseError) → from ≡ Matpower → IsTaken (case_with_tables mat_fault b candidates (mat_within most a)) r
      → length (case_parts from) ≤ length contents → take (length (case_parts from)) (bytes_of contents) ≡ map file (range_with_len 2 (length (case_parts from))) → IsTaken (case_in most from candidates file) r
  mat_taken from candidates r e taken =
      subst (λ (f : CaseForm). length (case_parts f) ≤ length contents → take (length (case_parts f)) (bytes_of contents) ≡ map file (range_with_len 2 (length (case_parts f))) → IsTaken (case_in most f candidates file) r) (sym e)
      (two_at (λ u v. IsTaken (case_with_tables mat_fault v candidates (mat_within most u)) r) taken)

-- the files of a case, and behind them those of candidates and of a certificate
module _ (limits : Limits) (contents : List (Vec ℕ Global)) (file : ℕ → List ℕ) (r : Result Tables CaseError) (from : CaseForm) where
  abbrev IsRead : ℕ → Option (List ℕ) → Type 0
  IsRead most candidates = take (length (case_parts from)) (bytes_of contents) ≡ map file (range_with_len 2 (length (case_parts from))) → IsTaken (case_in most from candidates file) r

  front_long : length (map file (range_with_len 2 (length (case_parts from)))) ≡ length (case_parts from)
  front_long = length-map (range_with_len 2 (length (case_parts from))) file ∙ length-range_with_len 2 (length (case_parts from))

  -- behind them stand other words
  front_told : (rest : List ℕ) → bytes_of contents ≡ map file (range_with_len 2 (length (case_parts from)) ++ rest) → take (length (case_parts from)) (bytes_of contents) ≡ map file (range_with_len 2 (length (case_parts from)))
  front_told rest told =
      let n = length (case_parts from) in
      let front = map file (range_with_len 2 (length (case_parts from))) in
      let split : bytes_of contents ≡ front ++ map file rest = told ∙ map-append file (range_with_len 2 (length (case_parts from))) rest in
      ap (λ (xs : List (List ℕ)). take n xs) split ∙ (ap (λ (k : ℕ). take k (front ++ map file rest)) (sym front_long) ∙ take-append_seam front (map file rest))

  -- and they are read with the candidates, where these stand with the case
  case_at : (command : CaseCommand) (candidates : Option (List ℕ)) → candidates ≡ candidates_in (Case command from) file → IsRead limits.rows candidates
      → bytes_of contents ≡ map file (words_of (Case command from)) → IsTaken (parsed limits (Case command from) file) r
  unfolding parsed
  case_at command candidates is read told =
      subst (λ (o : Option (List ℕ)). IsTaken (case_in limits.rows from o file) r) is
      (read (front_told (item_if (is_offered (Case command from)) (candidates_at (Case command from)) ++ item_if (takes_certificate (Case command from)) (certificate_at (Case command from))) told))

  pub case_taken : (most : ℕ) → most ≡ limits.rows → (form : Form) (command : CaseCommand) (candidates : Option (List ℕ)) → form ≡ Case command from
      → (bytes_of contents ≡ map file (words_of (Case command from)) → candidates ≡ candidates_in (Case command from) file) → IsRead most candidates
      → bytes_of contents ≡ map file (words_of form) → IsTaken (parsed limits form file) r
  case_taken most held form command candidates e is read =
      subst (λ (f : Form). bytes_of contents ≡ map file (words_of f) → IsTaken (parsed limits f file) r) (sym e) (λ told. case_at command candidates (is told) (subst (λ (n : ℕ). IsRead n candidates) held read) told)

-- a generated case
trial_at : (limits : Limits) (rows seed : ℕ) (file : ℕ → List ℕ) (r : Result Tables CaseError) → IsTaken (Ok (trial_of rows seed)) r → IsTaken (parsed limits (Trial rows seed) file) r
unfolding parsed
trial_at limits rows seed file r taken = taken

pub trial_taken : (limits : Limits) (form : Form) (rows seed : ℕ) (file : ℕ → List ℕ) (r : Result Tables CaseError) → form ≡ Trial rows seed → IsTaken (Ok (trial_of rows seed)) r → IsTaken (parsed limits form file) r
trial_taken limits form rows seed file r e taken = subst (λ (f : Form). IsTaken (parsed limits f file) r) (sym e) (trial_at limits rows seed file r taken)

-- the first fault of a MATPOWER file
mat_ended : (r : Result Tables TableFault) (fault : MatFault) → mat.as_end r ≡ Err (Mat fault) → ⊥
mat_ended (Ok t) fault e = absurd (cc e)
mat_ended (Err f) fault e = absurd (cc e)

refused_for : (meters : List ℕ) (candidates : Option (List ℕ)) (r : Result Tables MatFault) (fault : MatFault) (said : Fault)
    → mat.with_tables meters candidates r ≡ Err (Mat fault) → said ≡ mat_fault fault → case_with_tables mat_fault meters candidates r ≡ Err said
refused_for meters candidates (Ok t) fault said e s = absurd (mat_ended (tables_after meters candidates t) fault e)
refused_for meters candidates (Err f) fault said e s =
    let same : f ≡ fault = cc e in
    ap Err (ap mat_fault same ∙ sym s)

pub mat_refused : (meters : List ℕ) (candidates : Option (List ℕ)) (r : Result Tables MatFault) (end : MatEnd) (fault : MatFault) (said : Fault) → end ≡ Mat fault
    → EndsCase (mat.with_tables meters candidates r) end → said ≡ mat_fault fault → case_with_tables mat_fault meters candidates r ≡ Err said
mat_refused meters candidates r end fault said is ends s =
    refused_for meters candidates r fault said (subst (λ (e : MatEnd). EndsCase (mat.with_tables meters candidates r) e) is ends) s
