-- Where the framed run goes on in its block the measure falls.
use Rattle.std.proofs.Common.{◌≡◌, ℕ, ◌+◌, ◌-◌, ◌<◌, length, Option, sym, subst, arith, if◌then◌else◌}
use Rattle.std.proofs.lemmas.Option.{slice_get_within}
use Rattle.std.specs.Prelude.{slice_get, ◌==◌}
use Rattle.pass_proofs.proofs.ir_laws.paths.renamed.Uses.{stands_in}
use Rattle.pass_proofs.specs.ir_model.declared.instr.Instr.{Instr}
use Rattle.pass_proofs.specs.ir_model.declared.module.Block.{Block}
use Rattle.pass_proofs.specs.ir_model.declared.module.Function.{Function}
use Rattle.pass_proofs.specs.ir_paths.Windows.{end_block}
use Rattle.pass_split_proof.specs.states.Related.{ahead_in, instrs_of, steps_ahead}
use Rattle.pass_proofs.proofs.rule_laws.rules.sources.Places.{instr_there}
use Rattle.pass_proofs.specs.run_step.Step.{AtInstr, fetch}

-- what lies behind the block
abbrev far : Function → ℕ → ℕ
far f block = if block == end_block f then 0 else 1 + length (instrs_of (slice_get f.blocks (end_block f)))

pub next_lower : (f : Function) (block at : ℕ) (i : Instr) → fetch f block at ≡ AtInstr i
    → steps_ahead f block (at + 1) < steps_ahead f block at
next_lower f block at i e =
    let y = stands_in f (record { block = block; at = at }) i (instr_there f block at i e) in
    subst (λ (o : Option Block). far f block + ahead_in (instrs_of o) (at + 1) < far f block + ahead_in (instrs_of o) at)
    (sym y.got)
    (lower (far f block) (length y.block.instrs) at (slice_get_within y.block.instrs at i y.stands))
  where
    lower : (a n k : ℕ) → k < n → a + (n - (k + 1)) < a + (n - k)
    lower a n k lt = omega arith
