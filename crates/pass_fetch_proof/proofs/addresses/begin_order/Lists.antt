-- Uses behind begin: from operands of lists of instructions, some of which go, to the uses of blocks.
use Rattle.std.proofs.Common.{◌≡◌, inl, inr, ⊎_elim, ℕ, suc, ◌+◌, Bool, true, false, List, [], ◌∷◌, ◌++◌, length, refl, sym, subst, arith}
use Rattle.std.specs.Prelude.{Option, Some, filter, map, option_to_list, slice_get, if◌then◌else◌}
use Rattle.pass_fetch_proof.specs.addresses.rules.Addresses.{HasBegin}
use Rattle.pass_fetch_proof.proofs.addresses.rules.Unmarked.{promise_result as same_promise}
use Rattle.pass_fetch_proof.specs.addresses.begin_order.Behind.{IsBehind, IsIncomingBehind}
use Rattle.pass_edges_proof.specs.ir_base.declared.outcome.Place.{Place}
use Rattle.pass_edges_proof.specs.rule_uses.Uses.{Use, block_uses, block_values, blocks_uses, incoming_use, incoming_uses, instr_uses, local_of, made_by_instrs, phi_uses, phi_values, uses_at, uses_of, values_at}
use Rattle.pass_edges_proof.proofs.ir_laws.facts.Members.{each_behind}
use Rattle.pass_edges_proof.proofs.ir_laws.paths.source_rules.Locals.{listed_either, listed_left, listed_right}
use Rattle.pass_edges_proof.proofs.rule_laws.rules.source_rules.Locals.{made_by}
use Rattle.pass_edges_proof.specs.flow_solver.Paths.{IsListed}
use Rattle.pass_addresses.specs.Placing.{stays, without_promise_of}
use Rattle.pass_edges_proof.specs.ir_parts.Contents.{ending_operands, instr_operands}
use Rattle.pass_edges_proof.specs.ir_parts.Parts.{instr_place}
use Rattle.ir_model.specs.Names.{position_of}
use Rattle.ir_model.specs.declared.instr.Incoming.{Incoming}
use Rattle.ir_model.specs.declared.instr.Instr.{Instr}
use Rattle.ir_model.specs.declared.instr.Phi.{Phi}
use Rattle.ir_model.specs.declared.module.Block.{Block}
use Rattle.ir_model.specs.declared.module.Function.{Function}
use Rattle.ir_model.specs.declared.operand.Operand.{Operand}
use Rattle.pass_edges_proof.specs.run_laws.changed.Changed.{Each}

module _ (h : Function) (begin : ℕ) (offsets : List (Option ℕ)) where
  abbrev Has : Use → Type 0
  Has = HasBegin h begin offsets

  -- ---- operands

  operands_have : (p : Place) (block : ℕ) (made : List ℕ) (xs : List Operand) → Each (IsBehind h begin offsets block made) xs → Each Has (uses_at p block made xs)
  operands_have p block made [] k = tt
  operands_have p block made (Operand.Local v ∷ xs) k = ((λ e u. k.0 e u.reaches u.not_before u.no_param), operands_have p block made xs k.1)
  operands_have p block made (Operand.Global n ∷ xs) k = operands_have p block made xs k.1
  operands_have p block made (Operand.Number z ∷ xs) k = operands_have p block made xs k.1
  operands_have p block made (Operand.True ∷ xs) k = operands_have p block made xs k.1
  operands_have p block made (Operand.False ∷ xs) k = operands_have p block made xs k.1
  operands_have p block made (Operand.Null ∷ xs) k = operands_have p block made xs k.1
  operands_have p block made (Operand.None ∷ xs) k = operands_have p block made xs k.1
  operands_have p block made (Operand.Poison ∷ xs) k = operands_have p block made xs k.1

  one_has : (p : Place) (i : Incoming) (us : List Use) (x : Operand) → IsBehind h begin offsets (position_of h i.from) (values_at h (position_of h i.from)) x → Each Has us → Each Has (map (incoming_use h p i) (option_to_list (local_of x)) ++ us)
  one_has p i us (Operand.Local v) k r = ((λ e u. k e u.reaches u.not_before u.no_param), r)
  one_has p i us (Operand.Global n) k r = r
  one_has p i us (Operand.Number z) k r = r
  one_has p i us Operand.True k r = r
  one_has p i us Operand.False k r = r
  one_has p i us Operand.Null k r = r
  one_has p i us Operand.None k r = r
  one_has p i us Operand.Poison k r = r

  incoming_have : (p : Place) (is : List Incoming) → Each (IsIncomingBehind h begin offsets) is → Each Has (incoming_uses h p is)
  incoming_have p [] k = tt
  incoming_have p (i ∷ is) k = one_has p i (incoming_uses h p is) i.value k.0 (incoming_have p is k.1)

  phis_have : (func block at : ℕ) (ps : List Phi) → Each (λ (p : Phi). Each (IsIncomingBehind h begin offsets) p.incoming) ps → Each Has (phi_uses h func block at ps)
  phis_have func block at [] k = tt
  phis_have func block at (p ∷ ps) k = each_behind Has (incoming_uses h (instr_place func block at) p.incoming) (phi_uses h func block (at + 1) ps) (incoming_have (instr_place func block at) p.incoming k.0) (phis_have func block (at + 1) ps k.1)

  -- ---- instructions of the result

  module _ (block : ℕ) where
    abbrev pub AllBehind : List ℕ → List Instr → Type 0
    AllBehind made [] = Unit {0}
    AllBehind made (j ∷ js) = Each (IsBehind h begin offsets block made) (instr_operands j) × AllBehind (made_by j ++ made) js

    instrs_have : (func at : ℕ) (made : List ℕ) (js : List Instr) → AllBehind made js → Each Has (instr_uses func block at made js)
    instrs_have func at made [] k = tt
    instrs_have func at made (j ∷ js) k =
        each_behind Has (uses_at (instr_place func block at) block made (instr_operands j)) (instr_uses func block (at + 1) (made_by j ++ made) js)
        (operands_have (instr_place func block at) block made (instr_operands j) k.0) (instrs_have func (at + 1) (made_by j ++ made) js k.1)

    -- begin's value is there where it was
    abbrev pub IsMore : List ℕ → List ℕ → Type 0
    IsMore made now = IsListed begin made → IsListed begin now

    pub operand_more : (made now : List ℕ) → IsMore made now → (x : Operand) → IsBehind h begin offsets block made x → IsBehind h begin offsets block now x
    operand_more made now up (Operand.Local v) k = λ e r none no_param. k e r (λ l. none (up l)) no_param
    operand_more made now up _ k = tt

    operands_more : (made now : List ℕ) → IsMore made now → (xs : List Operand) → Each (IsBehind h begin offsets block made) xs → Each (IsBehind h begin offsets block now) xs
    operands_more made now up [] k = tt
    operands_more made now up (x ∷ xs) k = (operand_more made now up x k.0, operands_more made now up xs k.1)

    pub more_made : (made now js : List ℕ) → IsMore made now → IsMore (js ++ made) (js ++ now)
    more_made made now js up l = ⊎_elim (λ a. listed_left begin js now a) (λ b. listed_right begin js now (up b)) (listed_either begin js made l)

    all_more : (made now : List ℕ) → IsMore made now → (js : List Instr) → AllBehind made js → AllBehind now js
    all_more made now up [] k = tt
    all_more made now up (j ∷ js) k = (operands_more made now up (instr_operands j) k.0, all_more (made_by j ++ made) (made_by j ++ now) (more_made made now (made_by j) up) js k.1)

    -- ---- those that are left of others

    module _ (marked : List Bool) where
      -- an instruction that stays has its operands behind begin, and one that goes isn't begin
      pub record IsLeft (made : List ℕ) (i : Instr) : Type 0 where
        pub kept : stays marked i ≡ true → Each (IsBehind h begin offsets block made) (instr_operands (without_promise_of i))
        pub gone : stays marked i ≡ false → IsListed begin (made_by i) → ⊥

      abbrev pub AllLeft : List ℕ → List Instr → Type 0
      AllLeft made [] = Unit {0}
      AllLeft made (i ∷ is) = IsLeft made i × AllLeft (made_by i ++ made) is

      left_behind : (made : List ℕ) (is : List Instr) → AllLeft made is → AllBehind made (map without_promise_of (filter (stays marked) is))
      left_behind made [] k = tt
      left_behind made (i ∷ is) k = on (stays marked i) refl (left_behind (made_by i ++ made) is k.1)
        where
          on : (b : Bool) → stays marked i ≡ b → AllBehind (made_by i ++ made) (map without_promise_of (filter (stays marked) is)) → AllBehind made (map without_promise_of (if b then i ∷ filter (stays marked) is else filter (stays marked) is))
          on true e rest = (k.0.kept e, subst (λ (o : Option ℕ). AllBehind (option_to_list o ++ made) (map without_promise_of (filter (stays marked) is))) (sym (same_promise i)) rest)
          on false e rest = all_more (made_by i ++ made) made (λ l. ⊎_elim (λ a. absurd (k.0.gone e a)) (λ b. b) (listed_either begin (made_by i) made l)) (map without_promise_of (filter (stays marked) is)) rest

      -- instructions of which each is left well wherever more is made
      pub each_left_well : (made : List ℕ) (js tail : List Instr) → ((j : Instr) → IsListed j js → (later : List ℕ) → IsMore made later → IsLeft later j) → ((later : List ℕ) → later ≡ made_by_instrs made js → AllLeft later tail) → AllLeft made (js ++ tail)
      each_left_well made [] tail k rest = rest made refl
      each_left_well made (j ∷ js) tail k rest =
          (k j (inl refl) made (λ l. l), each_left_well (made_by j ++ made) js tail (λ i l later up. k i (inr l) later (λ b. up (listed_right begin (made_by j) made b))) rest)

  -- ---- blocks

  pub record IsBlockLeft (block : ℕ) (marked : List Bool) (b : Block) (is : List Instr) : Type 0 where
    pub phis : Each (λ (p : Phi). Each (IsIncomingBehind h begin offsets) p.incoming) b.phis
    pub instrs : AllLeft block marked (phi_values b) is
    pub term : Each (IsBehind h begin offsets block (block_values b)) (ending_operands b.term)

  -- a block of what is left of instructions
  pub block_has : (func block : ℕ) (marked : List Bool) (b : Block) (is : List Instr) → b.instrs ≡ map without_promise_of (filter (stays marked) is) → IsBlockLeft block marked b is → Each Has (block_uses h func block b)
  unfolding block_uses
  block_has func block marked b is e k =
      let p : Place = instr_place func block (length b.phis + length b.instrs) in
      each_behind Has (phi_uses h func block 0 b.phis) (instr_uses func block (length b.phis) (phi_values b) b.instrs ++ uses_at p block (block_values b) (ending_operands b.term))
      (phis_have func block 0 b.phis k.phis)
      (each_behind Has (instr_uses func block (length b.phis) (phi_values b) b.instrs) (uses_at p block (block_values b) (ending_operands b.term))
      (instrs_have block func (length b.phis) (phi_values b) b.instrs (subst (AllBehind block (phi_values b)) (sym e) (left_behind block marked (phi_values b) is k.instrs)))
      (operands_have p block (block_values b) (ending_operands b.term) k.term))

blocks_from : (Q : Use → Type 0) (h : Function) (func at : ℕ) (bs : List Block) → ((j : ℕ) (b : Block) → slice_get bs j ≡ Some b → Each Q (block_uses h func (at + j) b)) → Each Q (blocks_uses h func at bs)
blocks_from Q h func at [] k = tt
blocks_from Q h func at (b ∷ bs) k =
    each_behind Q (block_uses h func at b) (blocks_uses h func (at + 1) bs)
    (let same : at + 0 ≡ at = omega arith in subst (λ (n : ℕ). Each Q (block_uses h func n b)) same (k 0 b refl))
    (blocks_from Q h func (at + 1) bs (λ j c e. let same : at + suc j ≡ at + 1 + j = omega arith in subst (λ (n : ℕ). Each Q (block_uses h func n c)) same (k (suc j) c e)))

-- the uses of a function, by its blocks
pub all_uses : (Q : Use → Type 0) (h : Function) (func : ℕ) → ((at : ℕ) (b : Block) → slice_get h.blocks at ≡ Some b → Each Q (block_uses h func at b)) → Each Q (uses_of func h)
all_uses Q h func each = blocks_from Q h func 0 h.blocks (λ j b e. let same : j ≡ 0 + j = omega arith in subst (λ (n : ℕ). Each Q (block_uses h func n b)) same (each j b e))
