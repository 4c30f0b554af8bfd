-- What `lower` keeps, from the bytes that were read to the bytes that were written.
use Rattle.std.specs.Prelude.{◌≡◌, ◌++◌, ℕ, List, [], ◌∷◌, None, slice_get, true}
use Rattle.cli_drive.specs.Endings.{Gets, IsReadWhole, Stream}
use Rattle.cli_answers.specs.compiler.Lowering.{name_of}
use Rattle.cli_answers.specs.compiler.NoCoroutine.{has_no_coroutine}
use Rattle.cli_answers.specs.compiler.rule_all.Refused.{IsRefused}
use Rattle.cli_answers.specs.compiler.rule_names.declared.stage.Stage.{Stage}
use Rattle.cli_answers.specs.compiler_theorem.theorem.Texts.{AgreeInRuns}
use Rattle.ir_model.specs.declared.module.Frame.{Frame}
use Rattle.ir_model.specs.declared.module.Module.{Module}
use Rattle.text_frame_lines.specs.Frames.{frames_text}
use Rattle.text_frame_lines.specs.declared.frames.FrameLine.{FrameLine}
use Rattle.text_grammar.specs.Text.{StandsFor}

-- a frame line tells the name of a frame's coroutine, its size and its alignment
pub record TellsFrame (m : Module) (line : FrameLine) (frame : Frame) : Type 0 where
  pub name : line.name ≡ name_of (slice_get m.functions frame.coroutine)
  pub size : line.size ≡ frame.size
  pub align : line.align ≡ frame.align

-- one line for each, in their order
abbrev pub TellFrames : Module → List FrameLine → List Frame → Type 0
TellFrames m [] [] = Unit {0}
TellFrames m [] (f ∷ fs) = ⊥
TellFrames m (l ∷ ls) [] = ⊥
TellFrames m (l ∷ ls) (f ∷ fs) = TellsFrame m l f × TellFrames m ls fs

-- no rule of modules without coroutines is broken, and no coroutine and no coro intrinsic is there
pub record IsPlain (m : Module) : Type 0 where
  pub breaks_none : IsRefused Stage.Plain m None
  pub none_there : has_no_coroutine m ≡ true

-- The text that was read stands for a module, and the one that was written for another, which is plain. It begins with
-- frame lines.
-- For each entry call and each list of answers the runs of both agree, where the source is given the sizes of frames
-- that are printed. That means: if the source is never undefined, the other makes the same observed calls, returns the
-- same value exactly if the source does, and is never stuck. It goes on with the same calls wherever the source goes on.
pub record KeepsMeaning (read written : List ℕ) : Type 0 where
  pub source : Module
  pub stands : StandsFor read source
  pub lowered : Module
  pub printed : StandsFor written lowered
  pub plain : IsPlain lowered
  pub lines : List FrameLine
  pub rest : List ℕ
  pub begins : written ≡ frames_text lines ++ rest
  pub frames : List Frame
  pub told : TellFrames source lines frames
  pub agree : AgreeInRuns source frames lowered

-- The whole input was read, and standard output got a text that keeps its meaning.
pub record IsLoweredWhole (input out : Stream) : Type 0 where
  pub read : List ℕ
  pub whole : IsReadWhole input read
  pub written : List ℕ
  pub gets : Gets out written
  pub keeps : KeepsMeaning read written
