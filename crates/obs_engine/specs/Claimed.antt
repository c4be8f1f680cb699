-- The claims that the answers to asks are.
use Rattle.std.specs.Prelude.{◌≡◌, ◌≤◌, ◌⊎◌, ℕ, ◌==◌, Bool, true, false, List, [], ◌∷◌, length, Ok, if◌then◌else◌}
use Rattle.std.specs.List.{flat_map, range_with_len}
use Rattle.obs_case.specs.Tables.{IsValid, Tables}
use Rattle.obs_network.specs.Network.{case_component_count, case_need}
use Rattle.obs_network.specs.Observable.{is_energised_component}
use Rattle.obs_cert.specs.Claims.{Claim, tree, bound}
use Rattle.obs_cert.specs.Read.{claims_of}
use Rattle.obs_script.specs.declared.command.Ask.{Ask}
use Rattle.obs_script.specs.declared.command.Ask.TheVariants.{Tree, Bound, Place, Cert}
use Rattle.obs_repair.specs.Bounds.{component_rank}
use Rattle.obs_edit.specs.Planned.{case_placed_pairs, case_placement}
use Rattle.obs_claimed.specs.Claimed.{component_bound, component_tree, placement_claim}
use Rattle.obs_files.specs.declared.words.CaseForm.{CaseForm}
use Rattle.obs_files.specs.declared.words.CaseCommand.TheVariants.{Session, Verify}
use Rattle.obs_files.specs.declared.words.Form.TheVariants.{Case}
use Rattle.obs_engine.specs.Asks.{ask_text}
use Rattle.obs_engine.specs.Commands.{IsFilesReply}
use Rattle.obs_files.specs.Files.{case_in_files}
use Rattle.obs_files.specs.Limits.{IsLimits, Limits}
use Rattle.obs_engine.specs.Replies.{Reply}
use Rattle.obs_engine.specs.Verify.{AllHold, valid_reply, verify_reply}
use Rattle.obs_files.specs.Words.{certificate_at, item_if}

-- the claim on a component: its tree where it has all pairs that it needs, where trees are asked for, and else its bound, where bounds
-- are; none on a component that isn't energised
unfoldable pub claims_on : Bool → Bool → Tables → ℕ → List Claim
claims_on trees bounds t c =
    if is_energised_component t c
    then (if component_rank t c == case_need t c then item_if trees (tree (component_tree t c)) else item_if bounds (bound (component_bound t c)))
    else []

-- the claims on all components, in their order
unfoldable pub claims_on_all : Bool → Bool → Tables → List Claim
claims_on_all trees bounds t = flat_map (claims_on trees bounds t) (range_with_len 0 (case_component_count t))

-- the answer to an ask claims these: trees, bounds, both, or a placement
abbrev pub AreClaimed : Ask → Tables → List Claim → Type 0
AreClaimed ask t claims =
    ((ask ≡ Tree) × (claims ≡ claims_on_all true false t))
    ⊎ ((ask ≡ Bound) × (claims ≡ claims_on_all false true t))
    ⊎ ((ask ≡ Cert) × (claims ≡ claims_on_all true true t))
    ⊎ ((ask ≡ Place) × (claims ≡ placement_claim t (case_placement t) (case_placed_pairs t) ∷ []))

-- such an answer is read back as what it claims, and all of that holds: the checker answers how many claims it has
abbrev pub AnswersHold : Type 0
AnswersHold = (ask : Ask) (t : Tables) (claims : List Claim) → IsValid t → AreClaimed ask t claims →
    (claims_of (ask_text ask t) ≡ Ok claims) × AllHold t claims × (verify_reply t (ask_text ask t) ≡ valid_reply (length claims))

-- such an answer to a case whose tables may have no more rows than the limits allow is no longer than a file may be with them
abbrev pub AnswersFit : Type 0
AnswersFit =
    (limits : Limits) (ask : Ask) (t : Tables) (claims : List Claim) → IsLimits limits → t.most ≤ limits.rows → IsValid t → AreClaimed ask t claims
    → length (ask_text ask t) ≤ limits.bytes

-- so where the files of a session are a case, and the certificate of `verify` with the same files is such an answer to that case, the
-- reply is how many claims it has
abbrev pub AnswersAreVerified : Type 0
AnswersAreVerified =
    (limits : Limits) (ask : Ask) (from : CaseForm) (offered : Bool) (file : ℕ → List ℕ) (t : Tables) (claims : List Claim) (input : List ℕ) (reply : Reply)
    → IsLimits limits → case_in_files limits (Case (Session offered) from) file ≡ Ok t → AreClaimed ask t claims
    → file (certificate_at (Case (Verify offered) from)) ≡ ask_text ask t
    → IsFilesReply limits (Case (Verify offered) from) input file reply → reply ≡ valid_reply (length claims)
