use Rattle.std.proofs.Common.{◌≡◌, ◌+◌, ◌++◌, drop, length}
use Rattle.pass_elide.specs.Elided.{elided_instrs, instr_frames}
use Rattle.pass_elide.proofs.elided.elided_instrs.Given as goal

abbrev pub invariant-loop-instr : goal.invariant-loop-instr
invariant-loop-instr g l =
    (l.all ++ elided_instrs (g.R.GivenFrames.found l.finder l.block) l.at (length l.frames + l.base) (drop l.instr-index l.instrs) ≡ elided_instrs (g.R.GivenFrames.found l.finder l.block) l.first (length l.initial.frames + l.base) l.instrs)
    × (l.frames ++ instr_frames (g.R.GivenFrames.found l.finder l.block) l.at (drop l.instr-index l.instrs) ≡ l.initial.frames ++ instr_frames (g.R.GivenFrames.found l.finder l.block) l.first l.instrs)
