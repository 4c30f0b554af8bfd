-- What the rules give of a coroutine is what is asked of it.
use Rattle.std.proofs.Common.{◌≡◌, ℕ, List, length, refl, subst}
use Rattle.pass_proofs.specs.frame_contents.declared.contents.Contents.{Contents}
use Rattle.pass_proofs.specs.frame_layout.declared.layout.Layout.{Layout}
use Rattle.pass_proofs.specs.ir_model.declared.module.Function.{Function}
use Rattle.pass_proofs.specs.ir_model.declared.module.Module.{Module}
use Rattle.pass_proofs.specs.pass_frames.Framed.{celled, copied}
use Rattle.pass_frames_code.specs.Framings.{IsFraming}
use Rattle.pass_frames_code.specs.Places.{Framing, with_copies}
use Rattle.pass_proofs.proofs.frames.rules.Built.{frameable}
use Rattle.pass_proofs.specs.frames.begin_order.Frames.{IsFrameable}
use Rattle.pass_proofs.specs.frames.rules.Buildable.{IsBuildable}

copies_are : (x : Framing) → copied x.function x.contents (celled x.code x.function x.contents) x.before ≡ with_copies x
unfolding celled copied
copies_are x = refl

pub framing_there : (m : Module) (k : ℕ) (l : Layout) (f : Function) (c : Contents) (before : List ℕ) (begin : ℕ)
    → IsBuildable m k l f c before begin
    → IsFraming (record { code = m; layout = l; function = f; contents = c; before = before })
framing_there m k l f c before begin h =
    let x : Framing = record { code = m; layout = l; function = f; contents = c; before = before } in
    record {
      position = k;
      begin = begin;
      frameable = subst (λ (g : Function). IsFrameable m k l f c begin (length g.names)) (copies_are x)
          (frameable m k l f c before begin h);
    }
