-- Where the points of a function are when its saves are written out.
use Rattle.std.specs.Prelude.{ℕ, zero, suc, Bool, List, [], length, slice_get, Some, None, Option, ◌+◌, ◌∷◌, if◌then◌else◌}
use Rattle.ir_model.specs.declared.instr.Instr.{Instr}
use Rattle.ir_model.specs.declared.module.Block.{Block}
use Rattle.ir_model.specs.declared.module.Function.{Function}
use Rattle.rule_laws.specs.ir_paths.declared.point.Point.{Point}
use Rattle.rule_laws.specs.ir_laws.facts.expanded.Expansion.{place_of}
use Rattle.pass_early_proof.specs.early.saves.SavesWritten.{behind_save, behind_saves, is_bare, with_save}
use Rattle.rule_laws.specs.ir_laws.facts.expanded.Spots.{instrs_in}

-- the name of the next save, where a block begins
abbrev pub number_of_block : Bool → ℕ → ℕ → List Block → ℕ
number_of_block coroutine zero n bs = n
number_of_block coroutine (suc k) n [] = n
number_of_block coroutine (suc k) n (b ∷ bs) = number_of_block coroutine k (behind_saves coroutine n b.instrs) bs

abbrev pub place_in : Bool → ℕ → ℕ → List Instr → ℕ
place_in coroutine k n is = place_of (with_save coroutine) (behind_save coroutine) k n is

-- how many saves are written before an instruction, of its own
abbrev pub own_saves : Bool → Option Instr → ℕ
own_saves coroutine None = 0
own_saves coroutine (Some i) = if is_bare coroutine i then 1 else 0

abbrev pub front_in : Bool → ℕ → List Block → Point → Point
front_in coroutine n bs p =
    record { block = p.block; at = place_in coroutine p.at (number_of_block coroutine p.block n bs) (instrs_in (slice_get bs p.block)) }

abbrev pub back_in : Bool → ℕ → List Block → Point → Point
back_in coroutine n bs p =
    record {
      block = p.block;
      at = place_in coroutine p.at (number_of_block coroutine p.block n bs) (instrs_in (slice_get bs p.block))
          + own_saves coroutine (slice_get (instrs_in (slice_get bs p.block)) p.at);
    }

-- where that begins which stands at a point: at a suspend whose save is written, with that save
abbrev pub front_of : Function → Point → Point
front_of f p = front_in f.coroutine (length f.names) f.blocks p

-- where the instruction itself stands
abbrev pub back_of : Function → Point → Point
back_of f p = back_in f.coroutine (length f.names) f.blocks p
