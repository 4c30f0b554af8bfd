-- What the calls that build frames and split functions keep of an accepted source.
use Rattle.std.specs.Prelude.{◌≡◌, ◌*◌, ℕ, List, Ok, Some, false, slice_get}
use Rattle.compiler.specs.frame_contents.Frames.{AreLayouts}
use Rattle.compiler.specs.ir_model.declared.module.Function.{Function}
use Rattle.compiler.specs.ir_model.declared.module.Module.{Module}
use Rattle.compiler.specs.rule_laws.rules.names_apart.Words.{AreNamesFew}
use Rattle.compiler.specs.run_agreement.Agreements.{AgreesWithin}
use Rattle.compiler.specs.run_agreement.Machines.{IsFine, at, state_at}
use Rattle.compiler_theorem.specs.theorem.Conflicting.{HasConflicts}
use Rattle.compiler_theorem.specs.theorem.Entries.{Run}
use Rattle.compiler_theorem.specs.theorem.Lowered.{HasFewBytes, IsAccepted, IsLowered, Lowered, framed_run, lowered_from, plain_run, source_run}
use Rattle.compiler_theorem.specs.theorem.Theorem.{IsSomewhereShown}
use Rattle.pass_frames_meaning.specs.run_hooks.alive.Apart.{LiveAreApart}
use Rattle.pass_frames_prices.specs.FramePrices.{frames_factor}

-- The runs of a source and of its framed form agree: saves are written out within 2, and frames are built within 8 for
-- each name of the function that has most and each operand, and 8. Names of tokens and of begin don't count. In the frames
-- slots and values stand where they lie by the layouts. What lives or is kept at once conflicts, and so do its fields.
pub record KeepsFrames (l : Lowered) (r : Run) : Type 0 where
  pub agrees : AgreesWithin (2 * (8 * frames_factor l.source)) (at (source_run l r)) (at (framed_run l l.framed r))
  pub shared : (n : ℕ) → IsFine (at (source_run l r) n).outcome → IsSomewhereShown l r n
  pub apart : (n : ℕ) → IsFine (at (source_run l r) n).outcome
      → LiveAreApart l.source (state_at (source_run l r) n)
  pub conflicts : (n : ℕ) → IsFine (at (source_run l r) n).outcome
      → HasConflicts l.source (state_at (source_run l r) n)

-- a source of which frames may be built: it is accepted, of a text that the program takes, and has the layouts of its
-- frames; what its framed form is lowered to has few names
pub record MayBeBuilt (l : Lowered) : Type 0 where
  pub source : IsAccepted l
  pub laid : AreLayouts l.source l.share (Ok l.layouts)
  pub names : AreNamesFew (lowered_from l l.framed)
  pub few : HasFewBytes l

-- the framed form is that of an accepted source, of a text that the program takes
pub record IsBuiltOf (l : Lowered) : Type 0 where
  pub lowered : IsLowered l
  pub few : HasFewBytes l

-- the runs of a framed form and of the module of its parts agree within 4
abbrev pub KeepsParts : Lowered → Run → Module → ℕ → Type 0
KeepsParts l r m other = AgreesWithin 4 (at (framed_run l l.framed r)) (at (plain_run m r other))

-- A function of the name, the result and the parameters is in the list. That it is the first of the name follows where
-- names are apart.
pub record HasFunctionLike (f : Function) (functions : List Function) : Type 0 where
  pub at : ℕ
  pub function : Function
  pub there : slice_get functions at ≡ Some function
  pub name : function.name ≡ f.name
  pub result : function.result ≡ f.result
  pub params : function.params ≡ f.params

-- functions that are no coroutines keep their names and types
abbrev pub KeepsSignatures : Module → Module → Type 0
KeepsSignatures m n =
    (k : ℕ) (f : Function) → slice_get m.functions k ≡ Some f → f.coroutine ≡ false → HasFunctionLike f n.functions
