-- Where saves are written out, a function can still be written.
use Rattle.std.proofs.Common.{◌≡◌, ℕ, ◌-◌, Bool, true, false, List, [], ◌∷◌, length, sym, subst}
use Rattle.std.specs.Prelude.{None, Option, Some, if◌then◌else◌, map, option_to_list}
use Rattle.rule_laws.specs.text_names.Spelling.{IsName}
use Rattle.pass_early.specs.BeginName.{begin_name, if_unnamed, with_begin_name}
use Rattle.pass_early.specs.Early.{after_blocks, early_function, early_named, renaming_of, save_names}
use Rattle.pass_early.specs.Renaming.{renamed_instr, renamed_phi}
use Rattle.pass_early.specs.declared.renaming.Renaming.{Renaming}
use Rattle.rule_laws.proofs.ir_laws.facts.Members.{each_joined, joined_names}
use Rattle.pass_early_proof.proofs.early.local_rules.Known.{ending_types_same, instr_types_same}
use Rattle.pass_early_proof.proofs.early.local_rules.Turned.{Any, Begins, Further, NoBlock, Nothing, OneMore, Saves, Stays, Turns, TurnsAll, TurnsBlock, TurnsBlocks, turned_function}
use Rattle.rule_laws.specs.ir_parts.Contents.{ending_types, instr_types}
use Rattle.ir_model.specs.Calls.{first_result}
use Rattle.ir_model.specs.Ty.{Ty}
use Rattle.ir_model.specs.declared.instr.Instr.{Instr}
use Rattle.ir_model.specs.declared.instr.Phi.{Phi}
use Rattle.ir_model.specs.declared.instr.Terminator.{Terminator}
use Rattle.ir_model.specs.declared.module.Block.{Block}
use Rattle.ir_model.specs.declared.module.Function.{Function}
use Rattle.ir_model.specs.declared.module.Param.{Param}
use Rattle.ir_model.specs.declared.operand.Callee.{Callee}
use Rattle.ir_model.specs.declared.operand.Intrinsic.{Intrinsic}
use Rattle.pass_early_proof.proofs.early.spelled.Names.{begin_named, saves_named}
use Rattle.rule_laws.proofs.texts.spelled.Types.{ptr_spelled, token_spelled}
use Rattle.rule_laws.specs.texts.spelled.Spelled.{IsSpelled}
use Rattle.rule_laws.specs.rules.spelled.Spelled.{IsSpelledBlock, IsSpelledFunction, IsSpelledInstr, MayStand}
use Rattle.rule_laws.specs.run_laws.changed.Changed.{Each}

-- the instruction with other operands
pub with_types : (i j : Instr) → instr_types j ≡ instr_types i → (MayStand i → MayStand j) → IsSpelledInstr i → IsSpelledInstr j
with_types i j e f h = record { types = subst (Each IsSpelled) (sym e) h.types; stands = f h.stands }

module _ (r : Renaming) where
  renamed_stands : (i : Instr) → MayStand i → MayStand (renamed_instr r i)
  renamed_stands (Instr.Binary result op flags ty left right) h = h
  renamed_stands (Instr.Cast result op nneg arg to) h = h
  renamed_stands (Instr.Call result must_tail ty (Callee.Named n) args) h = h
  renamed_stands (Instr.Call result must_tail ty (Callee.Allocator a) args) h = tt
  renamed_stands (Instr.Call result must_tail ty (Callee.Intrinsic x) args) h = tt
  renamed_stands (Instr.Call result must_tail ty (Callee.Local v) args) h = tt
  renamed_stands (Instr.Icmp result pred ty left right) h = tt
  renamed_stands (Instr.Select result c a b) h = tt
  renamed_stands (Instr.Alloca result ty align) h = tt
  renamed_stands (Instr.Load result ty address align) h = tt
  renamed_stands (Instr.Store arg address align) h = tt
  renamed_stands (Instr.Gep result inbounds ty base indices) h = tt

  turned_spelled : (i : Instr) (js : List Instr) → Turns r Any i js → IsSpelledInstr i → Each IsSpelledInstr js
  turned_spelled i _ (Stays _) h = (with_types i (renamed_instr r i) (instr_types_same r i) (renamed_stands i) h, tt)
  turned_spelled _ _ (Begins n result must_tail ty args) h =
      let i : Instr = Instr.Call result must_tail ty (Callee.Intrinsic Intrinsic.CoroBegin) args in
      (record { types = subst (Each IsSpelled) (sym (instr_types_same r i)) h.types; stands = tt }, tt)
  turned_spelled _ _ (Saves n result must_tail ty a args number none) h =
      let i : Instr = Instr.Call result must_tail ty (Callee.Intrinsic Intrinsic.CoroSuspend) (a ∷ args) in (
        record { types = (token_spelled, (ptr_spelled, tt)); stands = tt },
        (record { types = subst (Each IsSpelled) (sym (instr_types_same r i)) h.types; stands = tt }, tt),
      )

  instrs_spelled : (is js : List Instr) → TurnsAll r Any is js → Each IsSpelledInstr is → Each IsSpelledInstr js
  instrs_spelled _ _ Nothing h = tt
  instrs_spelled _ _ (Further i is js ks t rest) h = each_joined IsSpelledInstr js ks (turned_spelled i js t h.0) (instrs_spelled is ks rest h.1)

  phis_spelled : (ps : List Phi) → Each (λ p. IsSpelled p.ty) ps → Each (λ p. IsSpelled p.ty) (map (renamed_phi r) ps)
  phis_spelled [] h = tt
  phis_spelled (p ∷ ps) h = (h.0, phis_spelled ps h.1)

  block_spelled : (b c : Block) → TurnsBlock r Any b c → IsSpelledBlock b → IsSpelledBlock c
  block_spelled b c t h =
      record {
        phis = subst (Each (λ (p : Phi). IsSpelled p.ty)) (sym t.phis) (phis_spelled b.phis h.phis);
        instrs = instrs_spelled b.instrs c.instrs t.instrs h.instrs;
        term = subst (λ (x : Terminator). Each IsSpelled (ending_types x)) (sym t.term) (subst (Each IsSpelled) (sym (ending_types_same r b.term)) h.term);
      }

  blocks_spelled : (bs cs : List Block) → TurnsBlocks r Any bs cs → Each IsSpelledBlock bs → Each IsSpelledBlock cs
  blocks_spelled _ _ NoBlock h = tt
  blocks_spelled _ _ (OneMore b c bs cs t rest) h = (block_spelled b c t h.0, blocks_spelled bs cs rest h.1)

begin_names : (f : Function) → Each IsName f.names → Each IsName (with_begin_name f).names
begin_names f h = on (first_result Intrinsic.CoroBegin f)
  where
    on : (o : Option ℕ) → Each IsName (if_unnamed o f).names
    on None = joined_names f.names (begin_name ∷ []) h (begin_named, tt)
    on (Some n) = h

early_names : (f : Function) → Each IsName f.names → Each IsName (early_function f).names
early_names f h = on f.coroutine
  where
    on : (b : Bool) → Each IsName (if b then early_named (with_begin_name f) else f).names
    on true =
        let g : Function = with_begin_name f in
        joined_names g.names (save_names (after_blocks (renaming_of g) (length g.names) g.blocks - length g.names)) (begin_names f h) (saves_named (after_blocks (renaming_of g) (length g.names) g.blocks - length g.names))
    on false = h

pub early_spelled : (f : Function) → IsSpelledFunction f → IsSpelledFunction (early_function f)
early_spelled f h =
    let t = turned_function f in
    record {
      name = subst IsName (sym t.name) h.name;
      result = subst (λ (o : Option Ty). Each IsSpelled (option_to_list o)) (sym t.result) h.result;
      params = subst (Each (λ (p : Param). IsSpelled p.ty)) (sym t.params) h.params;
      blocks = blocks_spelled t.renaming f.blocks (early_function f).blocks t.blocks h.blocks;
      names = early_names f h.names;
    }
