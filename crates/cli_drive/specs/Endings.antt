-- How a run of the program may end: what was read, what both outputs got, and the status.
use Rattle.std.specs.Prelude.{◌≡◌, ◌≤◌, ◌⊎◌, ℕ, Bool, true, false, List, [], codes, Option}
use Rattle.std.specs.List.{list_any}
use Rattle.std.specs.Io.KnownBytes.{Appends, Consumes, IsAtEnd}
use Rattle.cli_answers.specs.Answers.{IsAnswer, IsInput}
use Rattle.cli_io.specs.Faults.{Rose}
use Rattle.cli_io.specs.Parts.{AppendsPrefix, ConsumesAtMost, HoldsMore}
use Rattle.cli_report.specs.Report.{bad_list_text}
use Rattle.cli_runs.specs.cli_entries.Entries.{verdict_status}
use Rattle.cli_runs.specs.cli_entries.declared.verdict.Answer.{Answer}
use Rattle.cli_words.specs.Asked.{asked, asks_help}
use Rattle.cli_words.specs.Told.{wants_help}
use Rattle.cli_words.specs.declared.words.Reading.{Reading}
use Rattle.cli_words.specs.declared.words.Words.{Words}
use Rattle.ir_base.specs.declared.status.Status.{Status}

-- ---- inputs and outputs, before and after

-- the bytes that an input has left or that an output holds, where that is told, and its count of faults
pub record Stream : Type 0 where
  pub bytes : Option (List ℕ)
  pub bytes-new : Option (List ℕ)
  pub faults : ℕ
  pub faults-new : ℕ

-- by what is told of it
abbrev pub stream : {A : Type 0} → (bytes : A → Option (List ℕ)) → (faults : A → ℕ) → (old new : A) → Stream
stream bytes faults old new =
    record { bytes = bytes old; bytes-new = bytes new; faults = faults old; faults-new = faults new }

-- a count of faults never falls
abbrev pub NeverFalls : Stream → Type 0
NeverFalls s = s.faults ≤ s.faults-new

-- an output got the whole text
pub record Gets (s : Stream) (text : List ℕ) : Type 0 where
  pub whole : Appends s.bytes s.bytes-new text
  pub later : NeverFalls s

-- a write of the text failed, and the output got a part of its front
pub record GetsPart (s : Stream) (text : List ℕ) : Type 0 where
  pub fault : Rose s.faults s.faults-new
  pub part : AppendsPrefix s.bytes s.bytes-new text
  pub later : NeverFalls s

abbrev pub write_fault : List ℕ
write_fault = codes "write fault\n"

-- Standard output got the one text and standard error the other, and the status is told. Or a write to standard output
-- failed: that is told instead, and nothing else is written. Or what is told wasn't written whole.
pub data IsWritten (out err : Stream) (text told : List ℕ) (status result : Status) : Type 0 where
  Whole : result ≡ status → Gets out text → Gets err told → IsWritten out err text told status result
  OutFailed : result ≡ Status.WriteFault → GetsPart out text → Gets err write_fault ⊎ GetsPart err write_fault
      → IsWritten out err text told status result
  ErrFailed : result ≡ Status.WriteFault → Gets out text → GetsPart err told
      → IsWritten out err text told status result

-- ---- the command's answer

-- the outputs got the answer of the words' command to the bytes, with its status, or want of memory is told
pub data IsAnswered (w : Words) (bytes : List ℕ) (out err : Stream) (result : Status) : Type 0 where
  Answered : (a : Answer) → IsAnswer w bytes a → IsWritten out err a.out a.err (verdict_status a.verdict) result
      → IsAnswered w bytes out err result
  NoMemory : IsWritten out err [] (codes "out of memory\n") Status.OutOfMemory result
      → IsAnswered w bytes out err result

-- the input, of at most 2^24 bytes, was read to its end
pub record IsReadWhole (stream : Stream) (bytes : List ℕ) : Type 0 where
  pub input : IsInput bytes
  pub read : Consumes stream.bytes stream.bytes-new bytes
  pub at_end : IsAtEnd stream.bytes-new
  pub later : NeverFalls stream

-- at most 2^24 + 1 bytes of the input were read
pub record IsReadInPart (stream : Stream) : Type 0 where
  pub most : ConsumesAtMost stream.bytes stream.bytes-new 16777217
  pub later : NeverFalls stream

-- a command that reads its input
pub data EndsRead (w : Words) (input out err : Stream) (result : Status) : Type 0 where
  Read : (bytes : List ℕ) → IsReadWhole input bytes → IsAnswered w bytes out err result
      → EndsRead w input out err result
  -- a read failed
  ReadFailed : Rose input.faults input.faults-new → IsReadInPart input
      → IsWritten out err [] (codes "read fault\n") Status.ReadFault result → EndsRead w input out err result
  -- more than 2^24 bytes are there
  TooLong : HoldsMore input.bytes 16777216 → IsReadInPart input
      → IsWritten out err [] (codes "input above 16777216 bytes\n") Status.TooLong result
      → EndsRead w input out err result
  -- no memory for what was read
  NoRoom : IsReadInPart input → IsWritten out err [] (codes "out of memory\n") Status.OutOfMemory result
      → EndsRead w input out err result

-- nothing was read
abbrev pub IsUnread : Stream → Type 0
IsUnread input = (input.bytes-new ≡ input.bytes) × (input.faults-new ≡ input.faults)

-- `gen` alone reads nothing
abbrev pub reads_input : Words → Bool
reads_input (Words.Gen seed coroutines suspends) = false
reads_input _ = true

abbrev pub EndsBy : Bool → Words → (input out err : Stream) → Status → Type 0
EndsBy true w input out err result = EndsRead w input out err result
EndsBy false w input out err result = IsUnread input × IsAnswered w [] out err result

-- a word that is no list is told
pub data TellsBadList (word : List ℕ) (out err : Stream) (result : Status) : Type 0 where
  Told : IsWritten out err [] (bad_list_text word) Status.Words result → TellsBadList word out err result
  NoText : IsWritten out err [] (codes "out of memory\n") Status.OutOfMemory result
      → TellsBadList word out err result

-- ---- all that the program does

-- By the words. Those that aren't taken read nothing, and so does help. It comes only where one of them asks for it, and
-- always where clap finds nothing else.
pub data IsEnding (words : List (List ℕ)) (input out err : Stream) (result : Status) : Type 0 where
  Taken : (w : Words) → asked words ≡ Reading.Read w → EndsBy (reads_input w) w input out err result
      → IsEnding words input out err result
  BadList : (word : List ℕ) → asked words ≡ Reading.BadList word → IsUnread input → TellsBadList word out err result
      → IsEnding words input out err result
  Help : (text : List ℕ) → asked words ≡ Reading.Refused → list_any asks_help words ≡ true → IsUnread input
      → IsWritten out err text [] Status.Done result → IsEnding words input out err result
  Usage : (text : List ℕ) → asked words ≡ Reading.Refused → wants_help words ≡ false → IsUnread input
      → IsWritten out err [] text Status.Words result → IsEnding words input out err result
  NoMemoryForWords : IsUnread input → IsWritten out err [] (codes "out of memory\n") Status.OutOfMemory result
      → IsEnding words input out err result
