-- The lines of bytes, by where a line feed stands.
use Rattle.std.proofs.Common.{◌≡◌, ◌≢◌, ℕ, ◌+◌, add-zero, List, [], ◌∷◌, ◌++◌, length, take, drop, refl, sym, ap, ◌∙◌, arith}
use Rattle.std.proofs.lemmas.List.{append-nil, drop_all, length-append, take_all}
use Rattle.std.proofs.Math.Seq.{drop-append-add, take-append_seam}
use Rattle.std.specs.List.{position_or_len}
use Rattle.std.specs.Str.Lines.{strip_carriage_return}
use Rattle.obs_text.specs.Lines.{is_feed, lines_of}
use Rattle.obs_text.specs.Laws.{HasNoFeed}
use Rattle.obs_text.proofs.LineLemmas.{lines_of-step}
use Rattle.obs_text.proofs.LineLaws.{feed_after}
use Rattle.obs_script.specs.Gathered.{content_of}

no_feed : (line : List ℕ) → HasNoFeed line → position_or_len is_feed line ≡ length line
no_feed line none = ap (position_or_len is_feed) (sym (append-nil line)) ∙ feed_after line [] none ∙ add-zero (length line)

pub ended_line : (line rest : List ℕ) → HasNoFeed line → lines_of (line ++ 0x0A ∷ rest) ≡ content_of line ∷ lines_of rest
ended_line line rest none =
    let at : position_or_len is_feed (line ++ 0x0A ∷ rest) ≡ length line = feed_after line (0x0A ∷ rest) none ∙ add-zero (length line) in
    lines_of-step (line ++ 0x0A ∷ rest) (content_of line) rest
    (λ e. omega (arith, e, length-append line (0x0A ∷ rest)))
    (ap strip_carriage_return (sym (take-append_seam line (0x0A ∷ rest)) ∙ ap (λ n. take n (line ++ 0x0A ∷ rest)) (sym at)))
    (sym (ap (λ n. drop (n + 1) (line ++ 0x0A ∷ rest)) at ∙ drop-append-add line (0x0A ∷ rest) 1))

pub last_line : (line : List ℕ) → HasNoFeed line → line ≢ [] → lines_of line ≡ content_of line ∷ []
last_line [] none some = absurd (some refl)
last_line (byte ∷ line) none some =
    let at : position_or_len is_feed (byte ∷ line) ≡ length (byte ∷ line) = no_feed (byte ∷ line) none in
    lines_of-step (byte ∷ line) (content_of (byte ∷ line)) []
    (λ e. omega (arith, e))
    (ap strip_carriage_return (sym (ap (λ n. take n (byte ∷ line)) at ∙ take_all (length (byte ∷ line)) (byte ∷ line) (omega arith))))
    (sym (ap (λ n. drop (n + 1) (byte ∷ line)) at ∙ drop_all (length (byte ∷ line) + 1) (byte ∷ line) (omega arith)))
