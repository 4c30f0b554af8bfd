-- How many instructions of the framed form stand for one of the coroutine with blocks on edges, at most.
use Rattle.std.specs.Prelude.{ℕ, length}
use Rattle.pass_frames_proof.specs.ir_model.declared.instr.Instr.{Instr}
use Rattle.pass_frames_prices.specs.Counts.{behind_by, more_by}
use Rattle.pass_frames_proof.specs.Places.{Framing, copies, plan}

abbrev pub behind_of : Framing → Instr → ℕ
behind_of x i = behind_by (length (copies x).slots) i

abbrev pub more_of : Framing → Instr → ℕ
more_of x i = more_by (length (plan x).kept) (length (copies x).slots) i
