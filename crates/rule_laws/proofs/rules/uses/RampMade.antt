-- What a function makes before its uses, and that begin stands before what asks for it.
use Rattle.std.proofs.Common.{◌≡◌, inl, inr, ℕ, zero, suc, ◌+◌, true, List, [], ◌∷◌, length, refl, sym, subst, arith}
use Rattle.std.specs.Prelude.{None, Some, slice_get}
use Rattle.rule_laws.proofs.rules.counted.PartFacts.{block_made, uses_are}
use Rattle.ir_laws.specs.pass_front.Front.{is_alloca}
use Rattle.rule_uses.specs.Undefined.{IsFirstUndefined, ReachesWithout, params_of}
use Rattle.rule_uses.specs.Uses.{block_values, incoming_uses, locals_in, phi_uses, phi_values, uses_of, values_at}
use Rattle.rule_laws.proofs.rules.renamed.Uses.{none_undefined, of_block, three_kinds}
use Rattle.ir_laws.proofs.facts.Members.{each_left, each_right}
use Rattle.ir_laws.specs.flow_solver.Paths.{IsListed}
use Rattle.ir_parts.specs.Contents.{ending_operands, instr_operands}
use Rattle.ir_parts.specs.Parts.{instr_place}
use Rattle.ir_laws.specs.ir_model.Names.{position_of}
use Rattle.ir_laws.specs.ir_model.declared.instr.Incoming.{Incoming}
use Rattle.ir_laws.specs.ir_model.declared.instr.Instr.{Instr}
use Rattle.ir_laws.specs.ir_model.declared.instr.Phi.{Phi}
use Rattle.ir_laws.specs.ir_model.declared.module.Block.{Block}
use Rattle.ir_laws.specs.ir_model.declared.module.Function.{Function}
use Rattle.ir_laws.specs.ir_model.declared.operand.Operand.{Operand}
use Rattle.rule_laws.proofs.rules.uses.RampQuiet.{IsMade}
use Rattle.ir_laws.proofs.paths.replaced.Known.{of_listed}
use Rattle.rule_laws.specs.rules.replaced.Splittable.{AreBegun, AreBlocksBegun}
use Rattle.ir_laws.specs.run_laws.changed.Changed.{Each}
use Rattle.rule_laws.proofs.rules.woven_rules.Uses.{IsFine, IsSound, IsSoundIn, sound_incoming}

-- an alloca uses nothing
pub no_operands : (i : Instr) → is_alloca i ≡ true → locals_in (instr_operands i) ≡ []
no_operands (Instr.Alloca r ty align) e = refl
no_operands _ e = absurd (cc)

module _ (f : Function) where
  begun_at : (begin from : ℕ) (bs : List Block) → AreBlocksBegun f begin from bs → (q : ℕ) (b : Block) → slice_get bs q ≡ Some b → AreBegun f begin (from + q) (phi_values b) b.instrs
  begun_at begin from [] k q b e = absurd (cc)
  begun_at begin from (c ∷ bs) k zero b e =
      let same : c ≡ b = cc in
      let here : from ≡ from + 0 = omega arith in
      subst (λ (n : ℕ). AreBegun f begin n (phi_values b) b.instrs) here (subst (λ (x : Block). AreBegun f begin from (phi_values x) x.instrs) same k.0)
  begun_at begin from (c ∷ bs) k (suc q) b e = let next : from + 1 + q ≡ from + suc q = omega arith in subst (λ (n : ℕ). AreBegun f begin n (phi_values b) b.instrs) next (begun_at begin (from + 1) bs k.1 q b e)

  -- ---- ends of blocks and phis

  module _ (k : ℕ) (uses : IsFirstUndefined f (uses_of k f) None) where
    term_made : (v q : ℕ) (b : Block) → (IsListed v (params_of f) → ⊥) → slice_get f.blocks q ≡ Some b → ReachesWithout f v q → (IsListed v (block_values b) → ⊥) → IsListed v (locals_in (ending_operands b.term)) → ⊥
    term_made v q b no_param got r none l =
        let all = three_kinds (IsFine f) f k q b (of_block (IsFine f) f k q b (none_undefined f (uses_of k f) None uses refl) got) in
        uses_are f (instr_place k q (length b.phis + length b.instrs)) q (block_values b) (locals_in (ending_operands b.term)) all.term v l (record { reaches = r; not_before = none; no_param = no_param })

    phi_at : (block at : ℕ) (ps : List Phi) → Each (IsFine f) (phi_uses f k block at ps) → (x : Phi) → IsListed x ps → Each (IsSoundIn f) x.incoming
    phi_at block at [] h x l = absurd l
    phi_at block at (p ∷ ps) h x (inl e) =
        subst (λ (y : Phi). Each (IsSoundIn f) y.incoming) (sym e) (sound_incoming f (instr_place k block at) p.incoming (each_left (IsFine f) (incoming_uses f (instr_place k block at) p.incoming) (phi_uses f k block (at + 1) ps) h))
    phi_at block at (p ∷ ps) h x (inr l) = phi_at block (at + 1) ps (each_right (IsFine f) (incoming_uses f (instr_place k block at) p.incoming) (phi_uses f k block (at + 1) ps) h) x l

    phi_made : (v to : ℕ) (c : Block) (x : Phi) (i : Incoming) → (IsListed v (params_of f) → ⊥) → slice_get f.blocks to ≡ Some c → IsListed x c.phis → IsListed i x.incoming → i.value ≡ Operand.Local v → ReachesWithout f v (position_of f i.from) → (IsListed v (values_at f (position_of f i.from)) → ⊥) → ⊥
    phi_made v to c x i no_param got phi incoming local r none =
        let all = three_kinds (IsFine f) f k to c (of_block (IsFine f) f k to c (none_undefined f (uses_of k f) None uses refl) got) in
        let sound : IsSoundIn f i = of_listed (IsSoundIn f) x.incoming i (phi_at to 0 c.phis all.phis x phi) incoming in
        let here : IsSound f (position_of f i.from) (values_at f (position_of f i.from)) (Operand.Local v) = subst (IsSound f (position_of f i.from) (values_at f (position_of f i.from))) local sound in
        here r none no_param

    -- no use of the function is undefined
    pub ramp_made : (begin : ℕ) → AreBlocksBegun f begin 0 f.blocks → IsMade f begin
    ramp_made begin begun =
        record {
          instrs = λ q c got. block_made f k uses q c got;
          begun = λ q c got. let same : 0 + q ≡ q = omega arith in subst (λ (n : ℕ). AreBegun f begin n (phi_values c) c.instrs) same (begun_at begin 0 f.blocks begun q c got);
          term = λ v q c no_param got r none l. term_made v q c no_param got r none l;
          phi = λ v to c x i no_param got phi incoming local r none. phi_made v to c x i no_param got phi incoming local r none;
        }
