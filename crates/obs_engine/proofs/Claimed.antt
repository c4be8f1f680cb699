-- Answers are read back as what they claim, and that holds.
use Rattle.std.proofs.Common.{◌≡◌, ◌∙◌, ◌<◌, ℕ, Bool, true, false, List, [], ◌∷◌, ◌++◌, length, map, Option, Some, Result, Ok, refl, sym, ap, subst, inl, inr, append_assoc, append-nil, arith}
use Rattle.std.specs.Prelude.{if◌then◌else◌, ◌==◌}
use Rattle.std.specs.List.{flat_map, range_with_len}
use Rattle.std.proofs.lemmas.Bool.{eq-eqb, eqb-true}
use Rattle.std.proofs.lemmas.List.{map-append}
use Rattle.obs_case.specs.Tables.{IsValid, Tables}
use Rattle.obs_matroid.specs.Lists.{In}
use Rattle.obs_matroid.proofs.Lists.{In-flat_map_from}
use Rattle.obs_matroid.proofs.Ranges.{range_from}
use Rattle.obs_network.specs.Network.{case_component_count, case_need}
use Rattle.obs_network.specs.Observable.{is_energised_component}
use Rattle.obs_cert.specs.declared.fault.CertFault.{CertFault}
use Rattle.obs_cert.specs.declared.flaw.Flaw.{Flaw}
use Rattle.obs_cert.specs.inner.Certificate.{IsCertificate, claim_lines, joined}
use Rattle.obs_cert.specs.Claims.{Claim, tree, bound}
use Rattle.obs_cert.specs.Flaws.{Holds}
use Rattle.obs_cert.specs.Read.{claims_of}
use Rattle.obs_cert.specs.Words.{Line, end_line}
use Rattle.obs_cert.proofs.LawLemmas.{CertificateIsRead-holds}
use Rattle.obs_cert.proofs.TruthLemmas.{no_flaw}
use Rattle.obs_report.specs.Lines.{last_line}
use Rattle.obs_report.specs.Placements.{placement_text}
use Rattle.obs_repair.specs.Bounds.{component_rank}
use Rattle.obs_edit.specs.Planned.{case_placed_pairs, case_placement}
use Rattle.obs_repair.proofs.Tight.{observable-from, observable-to}
use Rattle.obs_claimed.specs.Claimed.{component_bound, component_tree, placement_claim}
use Rattle.obs_claimed.specs.inner.Laws.{AreLines}
use Rattle.obs_claimed.proofs.Bounds.{bounds_hold}
use Rattle.obs_claimed.proofs.Lines.{lines_then, no_lines}
use Rattle.obs_claimed.proofs.PlanClaims.{placements_hold}
use Rattle.obs_claimed.proofs.Texts.{bounds_are_lines, placements_are_lines, trees_are_lines}
use Rattle.obs_claimed.proofs.Trees.{trees_hold}
use Rattle.obs_claimed.proofs.Words.{last_is_line}
use Rattle.obs_engine.specs.Asks.{block_text, bound_claim, claims_text, component_claim, text_if, tree_claim}
use Rattle.obs_files.specs.Words.{item_if}
use Rattle.obs_engine.specs.Claimed.{AnswersHold, claims_on, claims_on_all}
use Rattle.obs_engine.specs.Verify.{AllHold, checked_reply, claims_reply, valid_reply, verify_reply}

-- the lines of some claims, and of those that stand behind others
abbrev lines_of_claims : List Claim → List Line
lines_of_claims claims = joined (map claim_lines claims)

behind : (first second : List Claim) → lines_of_claims (first ++ second) ≡ lines_of_claims first ++ lines_of_claims second
behind [] second = refl
behind (claim ∷ first) second =
    ap (λ (ls : List Line). claim_lines claim ++ ls) (behind first second)
    ∙ sym (append_assoc (claim_lines claim) (lines_of_claims first) (lines_of_claims second))

-- a text where a test is met
text_if_lines : (b : Bool) (text : List ℕ) (claim : Claim) → AreLines text (claim_lines claim) → AreLines (text_if b text) (lines_of_claims (item_if b claim))
text_if_lines true text claim is = subst (AreLines text) (sym (append-nil (claim_lines claim))) is
text_if_lines false text claim is = no_lines

-- one of two texts, or none
either_lines : (energised full trees bounds : Bool) (first second : List ℕ) (one other : Claim) → AreLines first (claim_lines one) → AreLines second (claim_lines other)
    → AreLines (if energised then (if full then text_if trees first else text_if bounds second) else [])
    (lines_of_claims (if energised then (if full then item_if trees one else item_if bounds other) else []))
either_lines true true trees bounds first second one other a b = text_if_lines trees first one a
either_lines true false trees bounds first second one other a b = text_if_lines bounds second other b
either_lines false full trees bounds first second one other a b = no_lines

held_if : (t : Tables) (b : Bool) (claim x : Claim) → Holds t claim → In x (item_if b claim) → Holds t x
held_if t true claim x holds (inl e) = rw e holds
held_if t true claim x holds (inr i) = absurd i
held_if t false claim x holds i = absurd i

either_held : (t : Tables) (energised full trees bounds : Bool) (one other x : Claim) → (energised ≡ true → full ≡ true → Holds t one) → (energised ≡ true → full ≡ false → Holds t other)
    → In x (if energised then (if full then item_if trees one else item_if bounds other) else []) → Holds t x
either_held t true true trees bounds one other x a b i = held_if t trees one x (a refl refl) i
either_held t true false trees bounds one other x a b i = held_if t bounds other x (b refl refl) i
either_held t false full trees bounds one other x a b i = absurd i

module _ (t : Tables) (v : IsValid t) (trees bounds : Bool) where
  -- the claim on a component
  on_lines : (c : ℕ) → c < case_component_count t → AreLines (component_claim trees bounds t c) (lines_of_claims (claims_on trees bounds t c))
  unfolding component_claim claims_on tree_claim bound_claim
  on_lines c l =
      either_lines (is_energised_component t c) (component_rank t c == case_need t c) trees bounds _ _ (tree (component_tree t c)) (bound (component_bound t c))
      (trees_are_lines t c v l) (bounds_are_lines t c v l)

  on_held : (c : ℕ) → c < case_component_count t → (x : Claim) → In x (claims_on trees bounds t c) → Holds t x
  unfolding claims_on
  on_held c l x i =
      let full = component_rank t c == case_need t c in
      either_held t (is_energised_component t c) full trees bounds (tree (component_tree t c)) (bound (component_bound t c)) x
      (λ energised is. trees_hold t c v l energised (observable-from t v c (eqb-true (component_rank t c) (case_need t c) is)))
      (λ energised is. bounds_hold t c v l energised (λ o. absurd (cc (is, eq-eqb (component_rank t c) (case_need t c) (observable-to t v c l o)))))
      i

  -- those on several components
  all_lines : (cs : List ℕ) → ((c : ℕ) → In c cs → c < case_component_count t)
      → AreLines (flat_map (component_claim trees bounds t) cs) (lines_of_claims (flat_map (claims_on trees bounds t) cs))
  all_lines [] low = no_lines
  all_lines (c ∷ cs) low =
      subst (AreLines (component_claim trees bounds t c ++ flat_map (component_claim trees bounds t) cs)) (sym (behind (claims_on trees bounds t c) (flat_map (claims_on trees bounds t) cs)))
      (lines_then (component_claim trees bounds t c) (flat_map (component_claim trees bounds t) cs) (lines_of_claims (claims_on trees bounds t c))
      (lines_of_claims (flat_map (claims_on trees bounds t) cs)) (on_lines c (low c (inl refl))) (all_lines cs (λ d i. low d (inr i))))

  low_components : (c : ℕ) → In c (range_with_len 0 (case_component_count t)) → c < case_component_count t
  low_components c i = let r = range_from 0 (case_component_count t) c i in omega (arith, r.1)

  components_lines : AreLines (claims_text trees bounds t) (lines_of_claims (claims_on_all trees bounds t))
  unfolding claims_text claims_on_all
  components_lines = all_lines (range_with_len 0 (case_component_count t)) low_components

  components_held : AllHold t (claims_on_all trees bounds t)
  unfolding claims_on_all
  components_held x i =
      let f = In-flat_map_from (claims_on trees bounds t) x (range_with_len 0 (case_component_count t)) i in
      on_held f.0 (low_components f.0 f.1) x f.2

-- the lines of claims and then the last line are a certificate
whole : (text : List ℕ) (claims : List Claim) → AreLines text (lines_of_claims claims) → IsCertificate (text ++ last_line) claims
whole text claims is =
    is last_line
    ∙ (ap (λ (ls : List (Option Line)). map Some (lines_of_claims claims) ++ ls) (last_is_line [])
    ∙ sym (map-append Some (lines_of_claims claims) (end_line ∷ [])))

-- and the checker says how many they are, where they hold
counted : (t : Tables) (bytes : List ℕ) (claims : List Claim) → claims_of bytes ≡ Ok claims → AllHold t claims → verify_reply t bytes ≡ valid_reply (length claims)
counted t bytes claims read hold =
    ap (λ (r : Result (List Claim) CertFault). claims_reply t r) read ∙ ap (λ (o : Option Flaw). checked_reply (length claims) o) ((no_flaw t 1 claims).1 hold)

-- so is the answer to an ask with one block
answered : (t : Tables) (text : List ℕ) (claims : List Claim) → AreLines text (lines_of_claims claims) → AllHold t claims
    → (claims_of ((text ++ []) ++ last_line) ≡ Ok claims) × AllHold t claims × (verify_reply t ((text ++ []) ++ last_line) ≡ valid_reply (length claims))
answered t text claims is hold =
    let bytes : (text ++ []) ++ last_line ≡ text ++ last_line = ap (λ (xs : List ℕ). xs ++ last_line) (append-nil text) in
    let read = ap claims_of bytes ∙ (CertificateIsRead-holds (text ++ last_line) claims).1 (whole text claims is) in
    (read, hold, counted t ((text ++ []) ++ last_line) claims read hold)

pub answers_hold : AnswersHold
unfolding block_text
answers_hold ask t claims v (inl h) = rw (h.0, h.1) (answered t (claims_text true false t) (claims_on_all true false t) (components_lines t v true false) (components_held t v true false))
answers_hold ask t claims v (inr (inl h)) = rw (h.0, h.1) (answered t (claims_text false true t) (claims_on_all false true t) (components_lines t v false true) (components_held t v false true))
answers_hold ask t claims v (inr (inr (inl h))) = rw (h.0, h.1) (answered t (claims_text true true t) (claims_on_all true true t) (components_lines t v true true) (components_held t v true true))
answers_hold ask t claims v (inr (inr (inr h))) =
    let claim = placement_claim t (case_placement t) (case_placed_pairs t) in
    let text = placement_text t (case_placement t) (case_placed_pairs t) in
    rw (h.0, h.1) (answered t text (claim ∷ []) (text_if_lines true text claim (placements_are_lines t v))
    (λ x i. held_if t true claim x (placements_hold t v) i))
