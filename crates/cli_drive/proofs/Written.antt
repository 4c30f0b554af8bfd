-- How a run of the program ends, by what its parts do.
use Rattle.std.proofs.Common.{◌≡◌, ◌∙◌, ℕ, Bool, true, false, List, [], sym, subst}
use Rattle.cli_answers.specs.Answers.{IsAnswer}
use Rattle.cli_drive.specs.Endings.{EndsBy, EndsRead, IsAnswered, IsUnread, IsWritten, Stream, reads_input}
use Rattle.cli_runs.specs.cli_entries.Entries.{verdict_status}
use Rattle.cli_runs.specs.cli_entries.declared.verdict.Answer.{Answer}
use Rattle.cli_words.specs.Told.{Tells}
use Rattle.cli_words.specs.declared.answer.Taken.{Taken}
use Rattle.cli_words.specs.declared.words.Words.{Words}
use Rattle.ir_base.specs.declared.status.Status.{Status}

-- the outputs got the texts of the answer
pub answered_by : (w : Words) (bytes : List ℕ) (out err : Stream) (a : Answer) (text told : List ℕ)
    (status result : Status) → IsAnswer w bytes a → text ≡ a.out → told ≡ a.err → status ≡ verdict_status a.verdict
    → IsWritten out err text told status result → IsAnswered w bytes out err result
answered_by w bytes out err a text told status result is same same-told same-status written =
    IsAnswered.Answered a is
    (subst (λ (q : List ℕ × (List ℕ × Status)). IsWritten out err q.0 q.1.0 q.1.1 result)
    (λ j. (same j, (same-told j, same-status j))) written)

-- a command that reads
pub read_ends : (w : Words) (reads : Bool) (input out err : Stream) (result : Status) → reads ≡ reads_input w
    → reads ≡ true → EndsRead w input out err result → EndsBy (reads_input w) w input out err result
read_ends w reads input out err result same reading is =
    subst (λ (b : Bool). EndsBy b w input out err result) (sym reading ∙ same) is

-- one that doesn't
pub other_ends : (w : Words) (reads : Bool) (input out err : Stream) (result : Status) → reads ≡ reads_input w
    → reads ≡ false → IsUnread input → IsAnswered w [] out err result → EndsBy (reads_input w) w input out err result
other_ends w reads input out err result same other unread is =
    subst (λ (b : Bool). EndsBy b w input out err result) (sym other ∙ same) (unread, is)

-- what is told of the words, by what they were taken as
pub told_as : (taken it : Taken) (words : List (List ℕ)) → taken ≡ it → Tells taken words → Tells it words
told_as taken it words same told = subst (λ (t : Taken). Tells t words) same told
