-- Where each part of a module is one of the grammar, its locals are positions of their functions' tables of names.
use Rattle.std.proofs.Common.{◌≡◌, ℕ, zero, suc, ◌<◌, List, [], ◌∷◌, ◌++◌, length, refl, subst}
use Rattle.std.specs.Prelude.{Some, None, Option, map, slice_get, unwrap_or}
use Rattle.ir_laws.specs.ir_base.declared.name.Name.{Name}
use Rattle.text_grammar.specs.Text.{StandsFor}
use Rattle.ir_laws.specs.ir_model.Names.{function_at, no_function}
use Rattle.ir_laws.specs.ir_model.declared.instr.Case.{Case}
use Rattle.ir_laws.specs.ir_model.declared.instr.Incoming.{Incoming}
use Rattle.ir_laws.specs.ir_model.declared.instr.Instr.{Instr}
use Rattle.ir_laws.specs.ir_model.declared.instr.Phi.{Phi}
use Rattle.ir_laws.specs.ir_model.declared.instr.Terminator.{Terminator}
use Rattle.ir_laws.specs.ir_model.declared.module.Block.{Block}
use Rattle.ir_laws.specs.ir_model.declared.module.Function.{Function}
use Rattle.ir_laws.specs.ir_model.declared.module.Module.{Module}
use Rattle.ir_laws.specs.ir_model.declared.module.Param.{Param}
use Rattle.ir_laws.specs.ir_model.declared.operand.Arg.{Arg}
use Rattle.ir_laws.specs.ir_model.declared.operand.Callee.{Callee}
use Rattle.ir_laws.specs.ir_model.declared.operand.Operand.{Operand}
use Rattle.text_canonical.proofs.order.Shaped.{text_is_shaped}
use Rattle.text_canonical.specs.order.Shape.{IsArg, IsBlock, IsCallee, IsCase, IsFunction, IsIncoming, IsInstr, IsOperand, IsParam, IsPhi, IsPlaced, IsShaped, IsTerminator, Some_of, Each as EachPart}
use Rattle.ir_laws.specs.run_laws.changed.Changed.{Each, called_operand, operands_of, operands_of_term, result_of, values_of, Each as EachOperand}
use Rattle.ir_laws.specs.facts.expanded.Tokens.{IsNamed, IsNamedResult}
use Rattle.ir_laws.specs.facts.sound_states.Named.{AreLocalsNamed, AreUsesNamed, HasNamedLocals, HasNamedUses}
use Rattle.ir_laws.proofs.facts.Lists.{below}

pub part_at : {A : Type 0} (P : A → Type 0) (xs : List A) (n : ℕ) (x : A) → EachPart P xs → slice_get xs n ≡ Some x → P x
part_at P [] n x h e = absurd (cc)
part_at P (y ∷ xs) zero x h e = let is : y ≡ x = cc in subst P is h.0
part_at P (y ∷ xs) (suc n) x h e = part_at P xs n x h.1 e

pub some_each : {A : Type 0} (P : A → Type 0) (xs : List A) → Some_of P xs → EachPart P xs
some_each P [] h = absurd h
some_each P (x ∷ xs) h = h

each_then : {A : Type 0} (P Q : A → Type 0) → ((x : A) → P x → Q x) → (xs : List A) → EachPart P xs → Each Q xs
each_then P Q go [] h = tt
each_then P Q go (x ∷ xs) h = (go x h.0, each_then P Q go xs h.1)

joined : (P : Operand → Type 0) (xs ys : List Operand) → EachOperand P xs → EachOperand P ys → EachOperand P (xs ++ ys)
joined P [] ys h k = k
joined P (x ∷ xs) ys h k = (h.0, joined P xs ys h.1 k)

module _ (names : List Name) where
  abbrev count : ℕ
  count = length names

  placed : (i : ℕ) → IsPlaced names i → i < count
  placed i h = below names i h.0 h.1

  operand : (x : Operand) → IsOperand names x → IsNamed count x
  operand (Operand.Local i) h = placed i h
  operand (Operand.Global n) h = tt
  operand (Operand.Number z) h = tt
  operand Operand.True h = tt
  operand Operand.False h = tt
  operand Operand.Null h = tt
  operand Operand.None h = tt
  operand Operand.Poison h = tt

  args : (xs : List Arg) → EachPart (IsArg names) xs → EachOperand (IsNamed count) (values_of xs)
  args [] h = tt
  args (a ∷ xs) h = (operand a.value h.0.1, args xs h.1)

  callee : (c : Callee) → IsCallee names c → EachOperand (IsNamed count) (called_operand c)
  callee (Callee.Named n) h = tt
  callee (Callee.Allocator a) h = tt
  callee (Callee.Intrinsic i) h = tt
  callee (Callee.Local i) h = (placed i h, tt)

  -- ---- instructions

  results : (i : Instr) → IsInstr names i → IsNamedResult count (result_of i)
  results (Instr.Binary r op f t a b) h = placed r h.0
  results (Instr.Icmp r p t a b) h = placed r h.0
  results (Instr.Select r c a b) h = placed r h.0
  results (Instr.Cast r op nneg a t) h = placed r h.0
  results (Instr.Alloca r t n) h = placed r h.0
  results (Instr.Load r t p n) h = placed r h.0
  results (Instr.Store a p n) h = tt
  results (Instr.Gep r inbounds t p is) h = placed r h.0
  results (Instr.Call None must t c xs) h = tt
  results (Instr.Call (Some r) must t c xs) h = placed r h.0

  operands : (i : Instr) → IsInstr names i → EachOperand (IsNamed count) (operands_of i)
  operands (Instr.Binary r op f t a b) h = (operand a h.3, (operand b h.4, tt))
  operands (Instr.Icmp r p t a b) h = (operand a h.2, (operand b h.3, tt))
  operands (Instr.Select r c a b) h = (operand c h.1, (operand a.value h.2.1, (operand b.value h.3.1, tt)))
  operands (Instr.Cast r op nneg a t) h = (operand a.value h.2.1, tt)
  operands (Instr.Alloca r t n) h = tt
  operands (Instr.Load r t p n) h = (operand p h.2, tt)
  operands (Instr.Store a p n) h = (operand a.value h.0.1, (operand p h.1, tt))
  operands (Instr.Gep r inbounds t p is) h = (operand p h.2, args is (some_each (IsArg names) is h.3))
  operands (Instr.Call r must t c xs) h = joined (IsNamed count) (called_operand c) (values_of xs) (callee c h.2) (args xs h.3)

  -- ---- phis and terminators

  taken : (p : Phi) → IsPhi names p → Each (λ (i : Incoming). IsNamed count i.value) p.incoming
  taken p h = each_then (IsIncoming names) (λ i. IsNamed count i.value) (λ i k. operand i.value k.0) p.incoming (some_each (IsIncoming names) p.incoming h.2)

  cases : (cs : List Case) → EachPart (IsCase names) cs → EachOperand (IsNamed count) (map (λ c. c.arg.value) cs)
  cases [] h = tt
  cases (c ∷ cs) h = (operand c.arg.value h.0.0.1, cases cs h.1)

  ends : (t : Terminator) → IsTerminator names t → EachOperand (IsNamed count) (operands_of_term t)
  ends (Terminator.Jump l) h = tt
  ends (Terminator.Branch c l r) h = (operand c h.0, tt)
  ends (Terminator.Switch a l cs) h = (operand a.value h.0.1, cases cs h.2)
  ends (Terminator.Ret None) h = tt
  ends (Terminator.Ret (Some a)) h = (operand a.value h.1, tt)
  ends Terminator.Unreachable h = tt

-- ---- functions

locals_in : (f : Function) → IsFunction f → HasNamedLocals f
locals_in f h =
    let blocks = some_each (IsBlock f.names) f.blocks h.2 in
    record {
      params = each_then (IsParam f.names) (λ (p : Param). p.name < length f.names) (λ p k. placed f.names p.name k.1) f.params h.1;
      phis = each_then (IsBlock f.names) (λ (b : Block). Each (λ (p : Phi). p.result < length f.names) b.phis) (λ b k. each_then (IsPhi f.names) (λ (p : Phi). p.result < length f.names) (λ p j. placed f.names p.result j.0) b.phis k.1) f.blocks blocks;
      results = each_then (IsBlock f.names) (λ (b : Block). Each (λ (i : Instr). IsNamedResult (length f.names) (result_of i)) b.instrs) (λ b k. each_then (IsInstr f.names) (λ (i : Instr). IsNamedResult (length f.names) (result_of i)) (results f.names) b.instrs k.2) f.blocks blocks;
    }

uses_in : (f : Function) → IsFunction f → HasNamedUses f
uses_in f h =
    let blocks = some_each (IsBlock f.names) f.blocks h.2 in
    record {
      operands = each_then (IsBlock f.names) (λ (b : Block). Each (λ (i : Instr). EachOperand (IsNamed (length f.names)) (operands_of i)) b.instrs) (λ b k. each_then (IsInstr f.names) (λ (i : Instr). EachOperand (IsNamed (length f.names)) (operands_of i)) (operands f.names) b.instrs k.2) f.blocks blocks;
      incoming = each_then (IsBlock f.names) (λ (b : Block). Each (λ (p : Phi). Each (λ (i : Incoming). IsNamed (length f.names) i.value) p.incoming) b.phis) (λ b k. each_then (IsPhi f.names) (λ (p : Phi). Each (λ (i : Incoming). IsNamed (length f.names) i.value) p.incoming) (taken f.names) b.phis k.1) f.blocks blocks;
      ends = each_then (IsBlock f.names) (λ (b : Block). EachOperand (IsNamed (length f.names)) (operands_of_term b.term)) (λ b k. ends f.names b.term k.3) f.blocks blocks;
    }

-- of each function, and of none
at_function : (P : Function → Type 0) → P no_function → ((f : Function) → IsFunction f → P f) → (m : Module) → IsShaped m → (func : ℕ) → P (function_at m func)
at_function P none go m h func = on (slice_get m.functions func) refl
  where
    on : (o : Option Function) → slice_get m.functions func ≡ o → P (unwrap_or o no_function)
    on None e = none
    on (Some f) e = go f (part_at IsFunction m.functions func f h.functions e)

pub locals_named : (text : List ℕ) (m : Module) → StandsFor text m → AreLocalsNamed m
locals_named text m h = at_function HasNamedLocals (record { params = tt; phis = tt; results = tt }) locals_in m (text_is_shaped text m h)

pub uses_named : (text : List ℕ) (m : Module) → StandsFor text m → AreUsesNamed m
uses_named text m h = at_function HasNamedUses (record { operands = tt; incoming = tt; ends = tt }) uses_in m (text_is_shaped text m h)
