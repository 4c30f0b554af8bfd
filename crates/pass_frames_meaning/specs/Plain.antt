-- Instructions whose results are plain names of the framed form.
use Rattle.pass_frames_proof.specs.ir_model.declared.instr.Instr.{Instr}

abbrev pub IsNoAlloca : Instr → Type 0
IsNoAlloca (Instr.Alloca r ty align) = ⊥
IsNoAlloca _ = Unit {0}

abbrev pub IsNoGep : Instr → Type 0
IsNoGep (Instr.Gep r inbounds ty base indices) = ⊥
IsNoGep _ = Unit {0}
