-- Answers that are certificates fit a file, and `verify` finds that they hold.
use Rattle.std.proofs.Common.{◌≡◌, ◌∙◌, ℕ, ◌+◌, ◌*◌, ◌≤◌, Bool, true, false, List, [], ◌++◌, length, Result, ap, subst, inl, inr, arith}
use Rattle.std.specs.Prelude.{◌==◌, if◌then◌else◌}
use Rattle.std.specs.List.{range_with_len}
use Rattle.std.proofs.lemmas.Bool.{le-ltb}
use Rattle.std.proofs.lemmas.List.{length-append}
use Rattle.std.proofs.lemmas.List.Concat.{length-flat_map}
use Rattle.std.proofs.lemmas.List.Sums.{sum_by-le-sum_by}
use Rattle.obs_text.specs.Faults.{Fault}
use Rattle.obs_case.specs.Tables.{IsValid, Tables}
use Rattle.obs_network.specs.Network.{case_component_count, case_need}
use Rattle.obs_network.specs.Observable.{is_energised_component}
use Rattle.obs_report.specs.Lines.{last_line}
use Rattle.obs_report.specs.Meters.{bound_text}
use Rattle.obs_report.specs.Placements.{placement_text}
use Rattle.obs_report.specs.Trees.{tree_text}
use Rattle.obs_repair.specs.Bounds.{bound_meters, bound_outside, bound_rank, component_rank}
use Rattle.obs_edit.specs.Answers.{case_first_pairs}
use Rattle.obs_edit.specs.Planned.{case_placed_pairs, case_placement}
use Rattle.obs_claimed.proofs.Fitting.{trees_and_bounds_fit}
use Rattle.obs_claimed.proofs.PlanLengths.{placements_fit}
use Rattle.obs_files.specs.declared.words.CaseCommand.TheVariants.{Session, Verify}
use Rattle.obs_files.specs.declared.words.Form.TheVariants.{Case}
use Rattle.obs_engine.specs.Asks.{ask_text, block_text, bound_claim, claims_text, component_claim, text_if, tree_claim}
use Rattle.obs_cert.specs.Claims.{Claim}
use Rattle.obs_script.specs.declared.command.Ask.{Ask}
use Rattle.obs_engine.specs.Claimed.{AnswersAreVerified, AnswersFit, AreClaimed}
use Rattle.obs_engine.specs.Commands.{IsCaseReply}
use Rattle.obs_files.specs.Files.{certificate_in, is_too_long}
use Rattle.obs_engine.specs.Replies.{IsReplyTo}
use Rattle.obs_engine.specs.Verify.{verify_reply}
use Rattle.obs_files.specs.Words.{certificate_at}
use Rattle.obs_engine.proofs.Claimed.{answers_hold}
use Rattle.obs_files.proofs.Beside.{same_case}
use Rattle.obs_files.proofs.Valid.{CasesAreValid-holds, case_within}

-- one of two texts, or none
if_length : (b : Bool) (text : List ℕ) → length (text_if b text) ≤ length text
if_length true text = omega arith
if_length false text = omega arith

either_length : (energised full trees bounds : Bool) (first second : List ℕ)
    → length (if energised then (if full then text_if trees first else text_if bounds second) else []) ≤ length first + length second
either_length true true trees bounds first second = let few = if_length trees first in omega (arith, few)
either_length true false trees bounds first second = let few = if_length bounds second in omega (arith, few)
either_length false full trees bounds first second = omega arith

module _ (t : Tables) where
  -- the claim on a component is its tree or its bound
  component_length : (trees bounds : Bool) (c : ℕ) → length (component_claim trees bounds t c)
      ≤ length (tree_text t c (case_first_pairs t)) + length (bound_text t c (bound_meters t c) (bound_rank t c) (bound_outside t c))
  unfolding component_claim tree_claim bound_claim
  component_length trees bounds c = either_length (is_energised_component t c) (component_rank t c == case_need t c) trees bounds _ _

  claims_length : (trees bounds : Bool) → IsValid t → length (claims_text trees bounds t) + length last_line ≤ 616 * t.most + 30
  unfolding claims_text
  claims_length trees bounds v =
      let all = range_with_len 0 (case_component_count t) in
      let pieces = length-flat_map (component_claim trees bounds t) all in
      let each = sum_by-le-sum_by (λ c. length (component_claim trees bounds t c))
      (λ c. length (tree_text t c (case_first_pairs t)) + length (bound_text t c (bound_meters t c) (bound_rank t c) (bound_outside t c))) all (component_length trees bounds) in
      let fit = trees_and_bounds_fit t v in
      omega (arith, pieces, each, fit)

-- an answer of one block
one_block : (most : ℕ) (text : List ℕ) → length text + length last_line ≤ most → length ((text ++ []) ++ last_line) ≤ most
one_block most text few =
    let both = length-append (text ++ []) last_line in
    let block = length-append text [] in
    omega (arith, few, both, block)

-- by the number of rows that the tables may have
answer_length : (ask : Ask) (t : Tables) (claims : List Claim) → IsValid t → AreClaimed ask t claims → length (ask_text ask t) ≤ 616 * t.most + 30
unfolding block_text
answer_length ask t claims v (inl h) = rw h.0 (one_block (616 * t.most + 30) (claims_text true false t) (claims_length t true false v))
answer_length ask t claims v (inr (inl h)) = rw h.0 (one_block (616 * t.most + 30) (claims_text false true t) (claims_length t false true v))
answer_length ask t claims v (inr (inr (inl h))) = rw h.0 (one_block (616 * t.most + 30) (claims_text true true t) (claims_length t true true v))
answer_length ask t claims v (inr (inr (inr h))) = rw h.0 (one_block (616 * t.most + 30) (placement_text t (case_placement t) (case_placed_pairs t)) (placements_fit t v))

pub answers_fit : AnswersFit
answers_fit limits ask t claims are few v claimed =
    let short = answer_length ask t claims v claimed in
    let fits = are.fit in
    omega (arith, short, few, fits)

pub answers_are_verified : AnswersAreVerified
answers_are_verified limits ask from offered file t claims input reply are is claimed kept replied =
    let verify = Case (Verify offered) from in
    let v : IsValid t = CasesAreValid-holds limits (Case (Session offered) from) file t are tt is in
    let few = answers_fit limits ask t claims are (let e = case_within limits are (Session offered) from file t is in omega (arith, e)) v claimed in
    let fits : is_too_long limits (file (certificate_at verify)) ≡ false =
    ap (is_too_long limits) kept ∙ le-ltb limits.bytes (length (ask_text ask t)) few in
    let read = same_case limits file offered from t is fits in
    let answer : reply ≡ verify_reply t (file (certificate_at verify)) =
    subst (λ (r : Result Tables Fault). IsReplyTo (IsCaseReply limits.bytes verify input (certificate_in verify file)) r reply) read replied in
    answer ∙ (ap (verify_reply t) kept ∙ (answers_hold ask t claims v claimed).2)
