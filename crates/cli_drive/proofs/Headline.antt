-- Where words ask for lowering and the program is done, what was written keeps the meaning of what was read.
use Rattle.std.proofs.Common.{◌≡◌, ◌≤◌, ◌<◌, ◌^◌, ◌++◌, ◌∙◌, ℕ, Bool, List, [], ◌∷◌, length, map, Ok, refl, sym, ap, subst, arith}
use Rattle.cli_answers.specs.Answers.{IsAnswer, IsMadeOf, lower_answer, options_of}
use Rattle.cli_drive.proofs.Plain.{order_has_none}
use Rattle.cli_drive.specs.Endings.{EndsBy, EndsRead, Gets, IsAnswered, IsEnding, IsReadWhole, IsWritten, Stream, reads_input}
use Rattle.cli_drive.specs.Headline.{IsLoweredWhole, KeepsMeaning, TellFrames}
use Rattle.cli_runs.specs.cli_entries.Entries.{verdict_status}
use Rattle.cli_runs.specs.cli_entries.declared.verdict.Answer.{Answer}
use Rattle.cli_words.specs.Asked.{asked}
use Rattle.cli_words.specs.declared.words.Reading.{Reading}
use Rattle.cli_words.specs.declared.words.Words.{Words}
use Rattle.cli_answers.proofs.compiler.Done.{lowering_holds}
use Rattle.cli_answers.specs.compiler.Lowering.{IsDone, IsLowering, frame_line, lowered_by}
use Rattle.cli_answers.specs.compiler.NoCoroutine.{LeavesNoCoroutine}
use Rattle.cli_answers.specs.compiler.Printed.{HasFewNames, IsReadPlain}
use Rattle.cli_answers.specs.compiler.declared.lowered.Lowered.{Lowered}
use Rattle.cli_answers.specs.compiler.declared.lowered.Lowering.{Lowering}
use Rattle.cli_answers.specs.compiler.frame_layout.declared.layout.Layout.{Layout}
use Rattle.cli_answers.specs.compiler.frame_layout.declared.layout.Layouts.{Layouts}
use Rattle.cli_answers.specs.compiler.run_framed.Framed.{frame_of_layout}
use Rattle.cli_answers.proofs.compiler_theorem.theorem.Texts.{texts_kept}
use Rattle.cli_answers.specs.compiler_theorem.theorem.Texts.{KeepsTexts}
use Rattle.ir_base.specs.declared.status.Status.{Status}
use Rattle.ir_model.specs.declared.module.Module.{Module}
use Rattle.text_canonical.specs.grammar.Bytes.{AreBytes}
use Rattle.text_frame_lines.specs.Frames.{frames_text}
use Rattle.text_frame_lines.specs.declared.frames.FrameLine.{FrameLine}

-- ---- the frame lines that are printed

lines_told : (m : Module) (cs : List Layout) → TellFrames m (map (frame_line m) cs) (map frame_of_layout cs)
lines_told m [] = tt
lines_told m (c ∷ cs) = (record { name = refl; size = refl; align = refl }, lines_told m cs)

record HasLines (l : Lowered) : Type 0 where
  pub lines : List FrameLine
  pub rest : List ℕ
  pub begins : l.text ≡ frames_text lines ++ rest
  pub told : TellFrames l.source lines (map frame_of_layout l.layouts.coroutines)

has_lines : (m : Module) (layouts : Layouts) (l : Lowered) → IsDone m layouts l → HasLines l
has_lines m layouts l d = subst HasLines (sym d.is) made
  where
    made : HasLines (lowered_by m layouts d.framed)
    made = record {
      lines = map (frame_line m) layouts.coroutines;
      rest = _;
      begins = refl;
      told = lines_told m layouts.coroutines;
    }

-- ---- a lowering

module _ (plain : Bool) (bytes : List ℕ) (are : AreBytes bytes) (few : length bytes ≤ 16777216) where
  kept : (l : Lowered) → IsLowering (options_of plain) bytes (Lowering.Done l) → HasFewNames (Lowering.Done l)
      → LeavesNoCoroutine (Lowering.Done l) → IsReadPlain (Lowering.Done l) → KeepsMeaning bytes l.text
  kept l low names none read =
      let short : length bytes < 2 ^ 31 = omega (arith, few) in
      let k : KeepsTexts bytes l = texts_kept (options_of plain) bytes are short l low names in
      let h : HasLines l = lowering_holds {E = Unit {0}} HasLines (options_of plain) bytes
      (λ m stands share layouts x accepted d. has_lines m layouts x d) (Ok (Lowering.Done l)) low in
      record {
        source = l.source;
        stands = k.stands;
        lowered = _;
        printed = k.printed;
        plain = record {
          breaks_none = read.accepted;
          none_there = order_has_none l.«module» none;
        };
        lines = h.lines;
        rest = h.rest;
        begins = h.begins;
        frames = map frame_of_layout l.layouts.coroutines;
        told = h.told;
        agree = k.runs;
      }

  made : (a : Answer) → IsMadeOf plain bytes lower_answer a → verdict_status a.verdict ≡ Status.Done
      → KeepsMeaning bytes a.out
  made a x done = by x.lowering x.lowered x.few x.none x.printed x.is
    where
      by : (l : Lowering) → IsLowering (options_of plain) bytes l → HasFewNames l → LeavesNoCoroutine l → IsReadPlain l
          → a ≡ lower_answer l → KeepsMeaning bytes a.out
      by (Lowering.Done l) low names none read is =
          subst (λ (t : List ℕ). KeepsMeaning bytes t) (sym (ap (λ (y : Answer). y.out) is)) (kept l low names none read)
      by (Lowering.Syntax items) low names none read is =
          let bad : Status.Refused ≡ Status.Done = ap (λ (y : Answer). verdict_status y.verdict) (sym is) ∙ done in
          absurd (cc)
      by (Lowering.Refused m rule place) low names none read is =
          let bad : Status.Refused ≡ Status.Done = ap (λ (y : Answer). verdict_status y.verdict) (sym is) ∙ done in
          absurd (cc)

-- ---- endings with status 0

-- both texts were written whole, and the status is told
whole_of : (out err : Stream) (text told : List ℕ) (status : Status)
    → IsWritten out err text told status Status.Done → (status ≡ Status.Done) × Gets out text
whole_of out err text told status (IsWritten.Whole same gets tells) = (sym same, gets)
whole_of out err text told status (IsWritten.OutFailed same part tells) = absurd (cc)
whole_of out err text told status (IsWritten.ErrFailed same gets part) = absurd (cc)

module _ (input out err : Stream) (plain : Bool) where
  answered : (bytes : List ℕ) → IsReadWhole input bytes → IsAnswered (Words.Lower plain) bytes out err Status.Done
      → IsLoweredWhole input out
  unfolding IsAnswer
  answered bytes whole (IsAnswered.Answered a is written) =
      let w = whole_of out err a.out a.err (verdict_status a.verdict) written in
      record {
        read = bytes;
        whole = whole;
        written = a.out;
        gets = w.1;
        keeps = made plain bytes whole.input.are whole.input.few a is w.0;
      }
  answered bytes whole (IsAnswered.NoMemory written) =
      let w = whole_of out err [] _ Status.OutOfMemory written in let bad = w.0 in absurd (cc)

  read : EndsRead (Words.Lower plain) input out err Status.Done → IsLoweredWhole input out
  read (EndsRead.Read bytes whole is) = answered bytes whole is
  read (EndsRead.ReadFailed rose part written) =
      let bad = (whole_of out err [] _ Status.ReadFault written).0 in absurd (cc)
  read (EndsRead.TooLong more part written) =
      let bad = (whole_of out err [] _ Status.TooLong written).0 in absurd (cc)
  read (EndsRead.NoRoom part written) =
      let bad = (whole_of out err [] _ Status.OutOfMemory written).0 in absurd (cc)

  lowered_whole : (words : List (List ℕ)) → asked words ≡ Reading.Read (Words.Lower plain)
      → IsEnding words input out err Status.Done → IsLoweredWhole input out
  lowered_whole words is (IsEnding.Taken w e ends) =
      let same : w ≡ Words.Lower plain = cc in
      read (subst (λ (x : Words). EndsBy (reads_input x) x input out err Status.Done) same ends)
  lowered_whole words is (IsEnding.BadList word e unread told) = absurd (cc)
  lowered_whole words is (IsEnding.Help text e asks unread written) = absurd (cc)
  lowered_whole words is (IsEnding.Usage text e unwanted unread written) = absurd (cc)
  lowered_whole words is (IsEnding.NoMemoryForWords unread written) =
      let bad = (whole_of out err [] _ Status.OutOfMemory written).0 in absurd (cc)

  pub lowered_done : (words : List (List ℕ)) (status : Status) → asked words ≡ Reading.Read (Words.Lower plain)
      → status ≡ Status.Done → IsEnding words input out err status → IsLoweredWhole input out
  lowered_done words status is done ends =
      lowered_whole words is (subst (λ (s : Status). IsEnding words input out err s) done ends)
