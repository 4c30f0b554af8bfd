-- The first pass puts in no structure.
use Rattle.std.proofs.Common.{ℕ, List}
use Rattle.compiler_theorem.specs.narrow.Narrow.{IsNarrowBlock, IsNarrowFunction, IsNarrowInstr}
use Rattle.compiler.proofs.ir_laws.facts.Members.{each_joined}
use Rattle.compiler.specs.ir_model.declared.instr.Instr.{Instr}
use Rattle.compiler.specs.ir_model.declared.module.Block.{Block}
use Rattle.compiler.specs.ir_model.declared.module.Function.{Function}
use Rattle.compiler.specs.pass_early.Early.{early_function}
use Rattle.compiler.specs.pass_early.Renaming.{renamed_instr}
use Rattle.compiler.specs.pass_early.declared.renaming.Renaming.{Renaming}
use Rattle.compiler.proofs.pass_proofs.early.local_rules.Turned.{Any, Begins, Further, NoBlock, Nothing, OneMore, Saves, Stays, Turns, TurnsAll, TurnsBlocks, turned_function}
use Rattle.compiler.specs.run_laws.changed.Changed.{Each}

module _ (bound : ℕ) where
  renamed_narrow : (r : Renaming) (i : Instr) → IsNarrowInstr bound i → IsNarrowInstr bound (renamed_instr r i)
  renamed_narrow r (Instr.Gep result inbounds ty base indices) h = h
  renamed_narrow r (Instr.Binary result op flags ty a b) h = tt
  renamed_narrow r (Instr.Icmp result pred ty a b) h = tt
  renamed_narrow r (Instr.Select result c a b) h = tt
  renamed_narrow r (Instr.Cast result op nneg arg to) h = tt
  renamed_narrow r (Instr.Alloca result ty align) h = tt
  renamed_narrow r (Instr.Load result ty p align) h = tt
  renamed_narrow r (Instr.Store arg p align) h = tt
  renamed_narrow r (Instr.Call result must_tail ty c args) h = tt

  turned_narrow : (r : Renaming) (i : Instr) (js : List Instr) → Turns r Any i js → IsNarrowInstr bound i
      → Each (IsNarrowInstr bound) js
  turned_narrow r i _ (Stays _) h = (renamed_narrow r i h, tt)
  turned_narrow r _ _ (Begins n result must_tail ty args) h = (tt, tt)
  turned_narrow r _ _ (Saves n result must_tail ty a args number none) h = (tt, (tt, tt))

  instrs_narrow : (r : Renaming) (is js : List Instr) → TurnsAll r Any is js → Each (IsNarrowInstr bound) is
      → Each (IsNarrowInstr bound) js
  instrs_narrow r _ _ Nothing h = tt
  instrs_narrow r _ _ (Further i is js ks t rest) h =
      each_joined (IsNarrowInstr bound) js ks (turned_narrow r i js t h.0) (instrs_narrow r is ks rest h.1)

  blocks_narrow : (r : Renaming) (bs cs : List Block) → TurnsBlocks r Any bs cs → Each (IsNarrowBlock bound) bs
      → Each (IsNarrowBlock bound) cs
  blocks_narrow r _ _ NoBlock h = tt
  blocks_narrow r _ _ (OneMore b c bs cs t rest) h =
      (instrs_narrow r b.instrs c.instrs t.instrs h.0, blocks_narrow r bs cs rest h.1)

  pub early_narrow : (f : Function) → IsNarrowFunction bound f → IsNarrowFunction bound (early_function f)
  early_narrow f h = let t = turned_function f in blocks_narrow t.renaming f.blocks (early_function f).blocks t.blocks h
