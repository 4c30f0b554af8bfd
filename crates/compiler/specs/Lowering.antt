-- The passes in a row.
use Rattle.std.specs.Prelude.{ℕ, Bool, List, [], map, slice_get, Some, None, Option, ◌≡◌, ◌++◌}
use Rattle.ir_base.specs.declared.name.Name.{Name}
use Rattle.ir_base.specs.declared.outcome.Place.{Place}
use Rattle.ir_base.specs.declared.status.Options.{Options}
use Rattle.pass_cleanup.specs.Cleanup.{clean_module}
use Rattle.pass_split.specs.Parts.{split_module}
use Rattle.pass_early.specs.Early.{early_module}
use Rattle.frame_layout.specs.declared.layout.Layout.{Layout}
use Rattle.frame_layout.specs.declared.layout.Layouts.{Layouts}
use Rattle.text_frame_lines.specs.Frames.{frames_text}
use Rattle.text_frame_lines.specs.declared.frames.FrameLine.{FrameLine}
use Rattle.ir_model.specs.declared.module.Function.{Function}
use Rattle.ir_model.specs.declared.module.Module.{Module}
use Rattle.text_parser.specs.Parse.{read_module}
use Rattle.text_parser.specs.declared.text.Parsed.{Parsed}
use Rattle.text_printer.specs.Items.{module_text}
use Rattle.compiler.specs.declared.lowered.Lowered.{Lowered}
use Rattle.compiler.specs.declared.lowered.Lowering.{Lowering}
use Rattle.frame_acceptance.specs.Acceptance.{IsAcceptance}
use Rattle.frame_acceptance.specs.declared.accepting.Acceptance.{Acceptance}
use Rattle.pass_frames.specs.Framed.{IsFramedForm}

-- coroutines split, and what is left of the coro intrinsics removed
abbrev pub lowered_module : Layouts → Module → Module
lowered_module layouts framed = clean_module (split_module layouts framed)

-- ---- the text

abbrev pub name_of : Option Function → Name
name_of None = Name.Number 0
name_of (Some f) = f.name

-- the frame line of a coroutine
abbrev pub frame_line : Module → Layout → FrameLine
frame_line m l = record { name = name_of (slice_get m.functions l.coroutine); size = l.size; align = l.align; index = l.index }

-- a frame line per coroutine, and the canonical text of the lowered module
abbrev pub lowered_text : Module → Layouts → Module → List ℕ
lowered_text m layouts lowered = frames_text (map (frame_line m) layouts.coroutines) ++ module_text lowered

-- ---- what the lowering of a text comes to

-- the calls of a source whose frames lie in their callers: none until elision is there
abbrev pub elided_calls : Module → List Place
elided_calls m = []

-- a source with the layouts of its frames and its framed form
abbrev pub lowered_by : Module → Layouts → Module → Lowered
lowered_by m layouts framed =
    record {
      text = lowered_text m layouts (lowered_module layouts framed);
      «module» = lowered_module layouts framed;
      source = m;
      framed = framed;
      layouts = layouts;
      sites = elided_calls m;
    }

-- an accepted source, with the layouts of its frames, is lowered: saves are written out, and frames are built
pub record IsDone (m : Module) (layouts : Layouts) (l : Lowered) : Type 0 where
  pub framed : Module
  pub is_framed : IsFramedForm layouts (early_module m) framed
  pub is : l ≡ lowered_by m layouts framed

-- what is made of an acceptance
abbrev pub IsLoweringBy : Module → Acceptance → Lowering → Type 0
IsLoweringBy m (Acceptance.Refused r) l = l ≡ Lowering.Refused m r.rule r.place
IsLoweringBy m (Acceptance.Accepted layouts) (Lowering.Done l) = IsDone m layouts l
IsLoweringBy m (Acceptance.Accepted layouts) (Lowering.Syntax items) = ⊥
IsLoweringBy m (Acceptance.Accepted layouts) (Lowering.Refused n rule place) = ⊥

-- what the lowering of a module comes to, in whose frames fields share bytes or don't
pub record IsModuleLowering (share : Bool) (m : Module) (l : Lowering) : Type 0 where
  pub acceptance : Acceptance
  pub accepted : IsAcceptance m share acceptance
  pub comes : IsLoweringBy m acceptance l

-- what the lowering of a text that is read so comes to
abbrev pub IsLoweringOf : Bool → Parsed → Lowering → Type 0
IsLoweringOf share (Parsed.Syntax items) l = l ≡ Lowering.Syntax items
IsLoweringOf share (Parsed.Module m) l = IsModuleLowering share m l

-- what the lowering of a text comes to
unfoldable pub IsLowering : Options → List ℕ → Lowering → Type 0
IsLowering options text l = IsLoweringOf options.share (read_module text) l

-- where a text was lowered, what it was lowered to has a property
abbrev pub OfLowered : (Lowered → Type 0) → Lowering → Type 0
OfLowered P (Lowering.Done l) = P l
OfLowered P (Lowering.Syntax items) = Unit {0}
OfLowered P (Lowering.Refused m rule place) = Unit {0}
