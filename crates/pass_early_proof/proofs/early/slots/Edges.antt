-- The edges of a function whose saves are written out.
use Rattle.rule_laws.proofs.ir_laws.paths.alike_slots.Strands.{AreStrands}
use Rattle.ir_model.specs.declared.module.Function.{Function}
use Rattle.pass_early_proof.proofs.early.saves.Apart.{back_back, front_back, front_front}
use Rattle.pass_early_proof.proofs.early.saves.Ways.{strands as ways}
use Rattle.pass_early_proof.specs.early.saves.SavesWritten.{saved_function}
use Rattle.pass_early_proof.specs.early.saves.Spots.{back_of, front_of}

pub strands : (f : Function) → AreStrands f (saved_function f) (front_of f) (back_of f)
strands f = record { ways = ways f; fronts = front_front f; backs = back_back f; mixed = front_back f }
