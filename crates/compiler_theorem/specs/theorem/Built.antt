-- What the coroutines of a framed form were framed by.
use Rattle.std.specs.Prelude.{ℕ, ℤ, List, [], length, if◌then◌else◌, ◌==◌}
use Rattle.compiler_theorem.specs.theorem.Lowered.{Lowered, early}
use Rattle.compiler.specs.frame_contents.declared.contents.Contents.{Contents}
use Rattle.compiler.specs.frame_layout.declared.layout.Layout.{Layout}
use Rattle.compiler.specs.ir_model.Names.{no_function}
use Rattle.compiler.specs.ir_model.declared.module.Function.{Function}
use Rattle.compiler.specs.ir_model.declared.module.Module.{Module}
use Rattle.compiler.specs.pass_frames.Framed.{AreFramed, Coroutine, IsFramedForm, NoneYet, Other, layout_at}
use Rattle.pass_frames_meaning.specs.pass_frames_proof.Places.{Framing, framing_of}
use Rattle.pass_frames_meaning.specs.pass_frames_proof.Related.{Building}
use Rattle.compiler.specs.run_framed.Framed.{framed_given, no_layout}

-- of no coroutine
abbrev pub no_contents : Contents
no_contents = record { crossing = []; classes = []; held = []; positions = [] }

abbrev pub no_framing : Module → Framing
no_framing m =
    record { code = m; layout = no_layout 0; function = no_function; contents = no_contents; before = [] }

-- of the function at a position
abbrev pub framing_in : (m : Module) (ls : List Layout) (c : ℕ) (fs gs : List Function) → AreFramed m ls c fs gs → ℕ
    → Framing
framing_in m ls _ _ _ NoneYet k = no_framing m
framing_in m ls _ _ _ (Other c f fs gs rest plain) k = framing_in m ls c fs gs rest k
framing_in m ls _ _ _ (Coroutine c f g fs gs rest coroutine is) k =
    if k == length fs then framing_of m (layout_at ls c) f g is else framing_in m ls c fs gs rest k

-- of a source
abbrev pub building : (l : Lowered) → IsFramedForm l.layouts (early l) l.framed → List ℤ → Building
building l form answers = record {
  code = early l;
  framed_code = l.framed;
  given = framed_given l.framed l.layouts.coroutines answers;
  framing = framing_in (early l) l.layouts.coroutines form.functions.count (early l).functions l.framed.functions
      form.functions.framed;
}
