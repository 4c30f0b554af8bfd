-- Framings of coroutines whose frames may be built.
use Rattle.std.specs.Prelude.{ℕ, length}
use Rattle.pass_frames_code.specs.Places.{Framing, with_copies}
use Rattle.pass_proofs.specs.frames.begin_order.Frames.{IsFrameable}

-- the coroutine breaks no rule, and what its frame holds is what the rules of frames say
pub record IsFraming (x : Framing) : Type 0 where
  pub position : ℕ
  pub begin : ℕ
  pub frameable : IsFrameable x.code position x.layout x.function x.contents begin (length (with_copies x).names)
