-- What the program is to answer, stated over the words, the limits and what the outside tells: the contents of the files, and the input.
use Rattle.std.specs.Prelude.{ℕ, ◌≡◌, List, Option, None, Some}
use Rattle.obs_files.specs.declared.words.Form.{Form}
use Rattle.obs_engine.specs.Commands.{IsFilesReply}
use Rattle.obs_files.specs.Limits.{Limits}
use Rattle.obs_files.specs.Outside.{AreFiles}
use Rattle.obs_engine.specs.Forms.{TakesInput}
use Rattle.obs_engine.specs.Replies.{Reply, usage_reply}

-- the limits, the content of the file of each word, by the word's position, and the bytes of the input
pub record Told : Type 0 where
  pub limits : Limits
  pub file : ℕ → List ℕ
  pub input : List ℕ

-- with these limits the outside tells the contents of the form's files up to the first that is too long, and the input where the form
-- takes it, and these are they
pub record Tells (limits : Limits) (form : Option Form) (content : ℕ → Option (List ℕ)) (left : Option (List ℕ)) (told : Told) : Type 0 where
  pub limited : told.limits ≡ limits
  pub files : AreFiles limits form content told.file
  pub input : TakesInput form → left ≡ Some told.input

-- the reply that is stated for a form and what is told. For all forms but a trial it is one
abbrev pub IsStated : Option Form → Told → Reply → Type 0
IsStated None told reply = reply ≡ usage_reply
IsStated (Some form) told reply = IsFilesReply told.limits form told.input told.file reply
