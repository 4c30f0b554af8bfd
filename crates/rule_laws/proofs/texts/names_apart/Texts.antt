-- The names of a function of a text are all different, and what holds of each local that stands in the function holds of each position of its table.
use Rattle.std.proofs.Common.{◌≡◌, inl, inr, ℕ, ◌+◌, ◌<◌, Bool, true, List, [], ◌∷◌, length, sym, ap, ◌∙◌, subst, arith}
use Rattle.std.specs.Prelude.{None, Option, Some, ◌⊎◌}
use Rattle.std.proofs.lemmas.Bool.{cases_lt}
use Rattle.std.proofs.lemmas.List.{length-append}
use Rattle.ir_laws.specs.ir_base.declared.name.Name.{Name}
use Rattle.ir_laws.specs.ir_model.declared.instr.Case.{Case}
use Rattle.ir_laws.specs.ir_model.declared.instr.Incoming.{Incoming}
use Rattle.ir_laws.specs.ir_model.declared.instr.Instr.{Instr}
use Rattle.ir_laws.specs.ir_model.declared.instr.Phi.{Phi}
use Rattle.ir_laws.specs.ir_model.declared.instr.Terminator.{Terminator}
use Rattle.ir_laws.specs.ir_model.declared.module.Block.{Block}
use Rattle.ir_laws.specs.ir_model.declared.module.Function.{Function}
use Rattle.ir_laws.specs.ir_model.declared.module.Module.{Module}
use Rattle.ir_laws.specs.ir_model.declared.module.Param.{Param}
use Rattle.ir_laws.specs.ir_model.declared.module.TypeItem.{TypeItem}
use Rattle.ir_laws.specs.ir_model.Ty.{Ty}
use Rattle.ir_laws.specs.ir_model.declared.operand.Arg.{Arg}
use Rattle.ir_laws.specs.ir_model.declared.operand.Callee.{Callee}
use Rattle.ir_laws.specs.ir_model.declared.operand.Operand.{Operand}
use Rattle.text_symbols.specs.Listing.{symbols_of}
use Rattle.text_symbols.specs.declared.sym.Sym.{Sym}
use Rattle.text_grammar.specs.Blocks.{AreBlocks, IsBlock, IsBody, IsCase, IsIncoming, IsLine, IsPhiLine, IsTerminator, label, unwritten_label}
use Rattle.text_grammar.specs.Functions.{AreNamed, IsFunction, Written, counted}
use Rattle.text_grammar.specs.Instructions.{AreArgs, IsCall, IsCallee, IsInstr, IsNamed}
use Rattle.text_grammar.specs.Items.{IsItem, Item, declaration, function, functions_of, global_item, group, groups_of, other, type_item, types_of}
use Rattle.text_grammar.specs.Phrases.{Locals, ◌∥◌, behind_comma, each, listed, some}
use Rattle.text_grammar.specs.Text.{StandsFor}
use Rattle.text_grammar.specs.Values.{IsArg, IsNew, IsPlace, IsTarget, IsTyped, IsValue, local}
use Rattle.ir_laws.specs.run_laws.changed.Changed.{Each}
use Rattle.ir_laws.proofs.facts.Members.{at_each, apart_from, different_behind}
use Rattle.ir_laws.proofs.facts.Lists.{AreDifferent}
use Rattle.ir_laws.specs.facts.names_apart.Apart.{AreNamesApart}
use Rattle.text_symbols.specs.declared.sym.Mark.TheVariants as marks
use Rattle.text_symbols.specs.declared.sym.Sym.TheVariants as syms

-- ---- what holds of each local that stands in a part

module _ (t : ℕ → Bool) where
  abbrev pub Holds : ℕ → Type 0
  Holds i = t i ≡ true

  abbrev pub OfOperand : Operand → Type 0
  OfOperand (Operand.Local i) = Holds i
  OfOperand _ = Unit {0}

  abbrev pub OfArg : Arg → Type 0
  OfArg a = OfOperand a.value

  abbrev pub OfCallee : Callee → Type 0
  OfCallee (Callee.Local i) = Holds i
  OfCallee _ = Unit {0}

  abbrev pub OfInstruction : Instr → Type 0
  OfInstruction (Instr.Binary r op f ty a b) = Holds r × (OfOperand a × OfOperand b)
  OfInstruction (Instr.Icmp r p ty a b) = Holds r × (OfOperand a × OfOperand b)
  OfInstruction (Instr.Select r c a b) = Holds r × (OfOperand c × (OfArg a × OfArg b))
  OfInstruction (Instr.Cast r op nneg a ty) = Holds r × OfArg a
  OfInstruction (Instr.Alloca r ty n) = Holds r
  OfInstruction (Instr.Load r ty p n) = Holds r × OfOperand p
  OfInstruction (Instr.Store a p n) = OfArg a × OfOperand p
  OfInstruction (Instr.Gep r inbounds ty p is) = Holds r × (OfOperand p × Each OfArg is)
  OfInstruction (Instr.Call (Some r) must ty c args) = Holds r × (OfCallee c × Each OfArg args)
  OfInstruction (Instr.Call None must ty c args) = OfCallee c × Each OfArg args

  abbrev pub OfIncoming : Incoming → Type 0
  OfIncoming i = OfOperand i.value × Holds i.from

  abbrev pub OfPhi : Phi → Type 0
  OfPhi p = Holds p.result × Each OfIncoming p.incoming

  abbrev pub OfCase : Case → Type 0
  OfCase c = OfArg c.arg × Holds c.target

  abbrev pub OfTerminator : Terminator → Type 0
  OfTerminator (Terminator.Jump l) = Holds l
  OfTerminator (Terminator.Branch c l m) = OfOperand c × (Holds l × Holds m)
  OfTerminator (Terminator.Switch a l cases) = OfArg a × (Holds l × Each OfCase cases)
  OfTerminator (Terminator.Ret None) = Unit {0}
  OfTerminator (Terminator.Ret (Some a)) = OfArg a
  OfTerminator Terminator.Unreachable = Unit {0}

  abbrev pub OfBlock : Block → Type 0
  OfBlock b = Holds b.label × (Each OfPhi b.phis × (Each OfInstruction b.instrs × OfTerminator b.term))

  abbrev pub OfParam : Param → Type 0
  OfParam p = Holds p.name

  abbrev pub OfFunction : Function → Type 0
  OfFunction f = Each OfParam f.params × Each OfBlock f.blocks

  abbrev pub OfTable : List Name → Type 0
  OfTable ns = (k : ℕ) → k < length ns → Holds k

-- ---- what a phrase adds to the names

record Grown (t : ℕ → Bool) (Q : Type 0) (s end : Locals) : Type 0 where
  different : AreDifferent s.0 → AreDifferent end.0
  all : Q → OfTable t s.0 → OfTable t end.0

grown_both : {t : ℕ → Bool} {Q R : Type 0} {s m end : Locals} → Grown t Q s m → Grown t R m end → Grown t (Q × R) s end
grown_both a b = record { different = λ d. b.different (a.different d); all = λ q h. b.all q.1 (a.all q.0 h) }

grown_same : (t : ℕ → Bool) (Q : Type 0) (s end : Locals) → s.0 ≡ end.0 → Grown t Q s end
grown_same t Q s end e = record { different = λ d. subst AreDifferent e d; all = λ q h. subst (OfTable t) e h }

grown_second : {t : ℕ → Bool} {Q : Type 0} {s m end : Locals} → s.0 ≡ m.0 → Grown t Q m end → Grown t Q s end
grown_second {t} e a = record { different = λ d. a.different (subst AreDifferent e d); all = λ q h. a.all q (subst (OfTable t) e h) }

grown_first : {t : ℕ → Bool} {Q : Type 0} {s m end : Locals} → Grown t Q s m → m.0 ≡ end.0 → Grown t Q s end
grown_first {t} a e = record { different = λ d. subst AreDifferent e (a.different d); all = λ q h. subst (OfTable t) e (a.all q h) }

new_each : (ns : List Name) (n : Name) → IsNew ns n → Each (λ x. x ≡ n → ⊥) ns
new_each [] n h = tt
new_each (m ∷ ns) n h = (h.0, new_each ns n h.1)

place_grown : (t : ℕ → Bool) (n : Name) (i : ℕ) (s end : Locals) → IsPlace s.0 n i end.0 → Grown t (Holds t i) s end
place_grown t n i s end (inl h) = grown_same t (Holds t i) s end (sym h.1)
place_grown t n i s end (inr h) =
    record {
      different = λ d. subst AreDifferent (sym h.2) (different_behind s.0 (n ∷ []) d (tt, tt) (new_each s.0 n h.0, tt));
      all = λ q below k less.
          let size : length end.0 ≡ length s.0 + 1 = ap length h.2 ∙ length-append s.0 (n ∷ []) in
          at_end k (nat_cases k (length s.0) (omega (arith, size, less))) below (subst (Holds t) h.1 q);
    }
  where
    nat_cases : (k n : ℕ) → k < n + 1 → (k < n) ⊎ (k ≡ n)
    nat_cases k n less = elim (cases_lt k n) [
      | inl h ↦ inl h
      | inr h ↦ inr (omega arith)
    ]

    at_end : (k : ℕ) → (k < length s.0) ⊎ (k ≡ length s.0) → OfTable t s.0 → Holds t (length s.0) → Holds t k
    at_end k (inl less) below last = below k less
    at_end k (inr same) below last = subst (Holds t) (sym same) last

-- ---- operands

module _ (t : ℕ → Bool) where
  local_grown : (i : ℕ) (s end : Locals) → local i s end → Grown t (Holds t i) s end
  local_grown i s end d = place_grown t d.0 i s end d.2

  value_grown : (x : Operand) (s end : Locals) → IsValue x s end → Grown t (OfOperand t x) s end
  value_grown (Operand.Local i) s end d = local_grown i s end d
  value_grown (Operand.Global n) s end d = grown_same t (Unit {0}) s end d.0
  value_grown (Operand.Number z) s end d = grown_same t (Unit {0}) s end d.0
  value_grown Operand.True s end d = grown_same t (Unit {0}) s end d.0
  value_grown Operand.False s end d = grown_same t (Unit {0}) s end d.0
  value_grown Operand.Null s end d = grown_same t (Unit {0}) s end d.0
  value_grown Operand.None s end d = grown_same t (Unit {0}) s end d.0
  value_grown Operand.Poison s end d = grown_same t (Unit {0}) s end d.0

  typed_grown : (a : Arg) (s end : Locals) → IsTyped a s end → Grown t (OfArg t a) s end
  typed_grown a s end d = grown_second {m = d.0} d.1.0 (value_grown a.value d.0 end d.2)

  arg_grown : (a : Arg) (s end : Locals) → IsArg a s end → Grown t (OfArg t a) s end
  arg_grown a s end d = grown_second {m = d.0} d.1.0 (value_grown a.value d.0 end d.2)

  target_grown : (i : ℕ) (s end : Locals) → IsTarget i s end → Grown t (Holds t i) s end
  target_grown i s end d = grown_second {m = d.0} d.1.0 (local_grown i d.0 end d.2)

  comma_grown : {Q : Type 0} {s m end : Locals} → (s.0 ≡ m.0) × (s.1 ≡ syms.Mark marks.Comma ∷ m.1) → Grown t Q m end → Grown t Q s end
  comma_grown d a = grown_second d.0 a

  each_grown : {A : Type 0} (P : A → Locals → Locals → Type 0) (Q : A → Type 0) → ((x : A) (s end : Locals) → P x s end → Grown t (Q x) s end) → (xs : List A) (s end : Locals) → each P xs s end → Grown t (Each Q xs) s end
  each_grown P Q f [] s end d = grown_same t (Unit {0}) s end (ap (λ (l : Locals). l.0) d)
  each_grown P Q f (x ∷ xs) s end d = grown_both (f x s d.0 d.1) (each_grown P Q f xs d.0 end d.2)

  more_grown : {A : Type 0} (P : A → Locals → Locals → Type 0) (Q : A → Type 0) → ((x : A) (s end : Locals) → P x s end → Grown t (Q x) s end) → (xs : List A) (s end : Locals) → each (behind_comma P) xs s end → Grown t (Each Q xs) s end
  more_grown P Q f [] s end d = grown_same t (Unit {0}) s end (ap (λ (l : Locals). l.0) d)
  more_grown P Q f (x ∷ xs) s end d = grown_both (comma_grown {m = d.1.0} d.1.1 (f x d.1.0 d.0 d.1.2)) (more_grown P Q f xs d.0 end d.2)

  args_grown : (args : List Arg) (s end : Locals) → AreArgs args s end → Grown t (Each (OfArg t) args) s end
  args_grown [] s end d = grown_same t (Unit {0}) s end (ap (λ (l : Locals). l.0) d)
  args_grown (a ∷ args) s end d = grown_both (arg_grown a s d.0 d.1) (more_grown IsArg (OfArg t) arg_grown args d.0 end d.2)

  indices_grown : (args : List Arg) (s end : Locals) → some (behind_comma IsTyped) args s end → Grown t (Each (OfArg t) args) s end
  indices_grown [] s end d = absurd d
  indices_grown (a ∷ args) s end d =
      grown_both (comma_grown {m = d.1.0} d.1.1 (typed_grown a d.1.0 d.0 d.1.2)) (more_grown IsTyped (OfArg t) typed_grown args d.0 end d.2)

  -- ---- instructions

  callee_grown : (c : Callee) (s end : Locals) → IsCallee c s end → Grown t (OfCallee t c) s end
  callee_grown (Callee.Local i) s end d = local_grown i s end d
  callee_grown (Callee.Named m) s end d = grown_same t (Unit {0}) s end d.0
  callee_grown (Callee.Allocator a) s end d = grown_same t (Unit {0}) s end d.0
  callee_grown (Callee.Intrinsic i) s end d = grown_same t (Unit {0}) s end d.0

  named_grown : (r : ℕ) (s end : Locals) → IsNamed r s end → Grown t (Holds t r) s end
  named_grown r s end d = grown_first (local_grown r s d.0 d.1) d.2.0

  call_grown : (must : Bool) (ty : Option Ty) (c : Callee) (args : List Arg) (s end : Locals) → IsCall must ty c args s end → Grown t (OfCallee t c × Each (OfArg t) args) s end
  call_grown must ty c args s end d =
      grown_second {m = d.0} d.1.0
      (grown_both (callee_grown c d.0 d.2.0 d.2.1)
      (grown_second {m = d.2.2.0} d.2.2.1.0 (grown_first (args_grown args d.2.2.0 d.2.2.2.0 d.2.2.2.1) d.2.2.2.2.0)))

  instr_grown : (types : List TypeItem) (i : Instr) (s end : Locals) → IsInstr types i s end → Grown t (OfInstruction t i) s end
  instr_grown types (Instr.Binary r op f ty a b) s end d =
      let x = named_grown r s d.0 d.1 in
      let y = value_grown a d.2.0 d.2.2.0 d.2.2.1 in
      let z = value_grown b d.2.2.2.0 end d.2.2.2.2 in
      grown_both x (grown_second d.2.1.0 (grown_both y (comma_grown d.2.2.2.1 z)))
  instr_grown types (Instr.Icmp r p ty a b) s end d =
      let x = named_grown r s d.0 d.1 in
      let y = value_grown a d.2.0 d.2.2.0 d.2.2.1 in
      let z = value_grown b d.2.2.2.0 end d.2.2.2.2 in
      grown_both x (grown_second d.2.1.0 (grown_both y (comma_grown d.2.2.2.1 z)))
  instr_grown types (Instr.Select r c a b) s end d =
      let x = named_grown r s d.0 d.1 in
      let y = value_grown c d.2.0 d.2.2.0 d.2.2.1 in
      let z = typed_grown a d.2.2.2.0 d.2.2.2.2.0 d.2.2.2.2.1 in
      let w = typed_grown b d.2.2.2.2.2.0 end d.2.2.2.2.2.2 in
      grown_both x (grown_second d.2.1.0 (grown_both y (comma_grown d.2.2.2.1 (grown_both z (comma_grown d.2.2.2.2.2.1 w)))))
  instr_grown types (Instr.Cast r op nneg a ty) s end d =
      let x = named_grown r s d.0 d.1 in
      let y = typed_grown a d.2.0 d.2.2.0 d.2.2.1 in
      grown_both x (grown_second d.2.1.0 (grown_first y d.2.2.2.0))
  instr_grown types (Instr.Alloca r ty n) s end d = grown_first (named_grown r s d.0 d.1) d.2.0
  instr_grown types (Instr.Load r ty p n) s end d =
      let x = named_grown r s d.0 d.1 in
      let y = value_grown p d.2.2.1.0 d.2.2.0 d.2.2.1.2 in
      grown_both x (grown_second {m = d.2.0} d.2.1.0 (grown_second {m = d.2.2.1.0} d.2.2.1.1.0 (grown_first y d.2.2.2.0)))
  instr_grown types (Instr.Store a p n) s end d =
      let x = typed_grown a d.0 d.2.0 d.2.1 in
      let y = value_grown p d.2.2.1.0 d.2.2.0 d.2.2.1.2 in
      grown_second d.1.0 (grown_both x (grown_second d.2.2.1.1.0 (grown_first y d.2.2.2.0)))
  instr_grown types (Instr.Gep r inbounds ty p is) s end d =
      let x = named_grown r s d.0 d.1 in
      let y = value_grown p d.2.2.1.0 d.2.2.0 d.2.2.1.2 in
      let z = indices_grown is d.2.2.0 end d.2.2.2 in
      grown_both x (grown_second {m = d.2.0} d.2.1.0 (grown_second {m = d.2.2.1.0} d.2.2.1.1.0 (grown_both y z)))
  instr_grown types (Instr.Call (Some r) must ty c args) s end d = grown_both (named_grown r s d.0 d.1) (call_grown must ty c args d.0 end d.2)
  instr_grown types (Instr.Call None must ty c args) s end d = call_grown must ty c args s end d

  -- ---- phis, terminators and blocks

  incoming_grown : (i : Incoming) (s end : Locals) → IsIncoming i s end → Grown t (OfIncoming t i) s end
  incoming_grown i s end d =
      grown_second d.1.0 (grown_both (value_grown i.value d.0 d.2.0 d.2.1) (comma_grown d.2.2.1 (grown_first (local_grown i.from d.2.2.0 d.2.2.2.0 d.2.2.2.1) d.2.2.2.2.0)))

  all_incoming_grown : (is : List Incoming) (s end : Locals) → listed IsIncoming is s end → Grown t (Each (OfIncoming t) is) s end
  all_incoming_grown [] s end d = absurd d
  all_incoming_grown (i ∷ is) s end d = grown_both (incoming_grown i s d.0 d.1) (more_grown IsIncoming (OfIncoming t) incoming_grown is d.0 end d.2)

  phi_grown : (p : Phi) (s end : Locals) → IsPhiLine p s end → Grown t (OfPhi t p) s end
  phi_grown p s end d =
      let x = named_grown p.result s d.1.0 d.1.1 in
      let y = all_incoming_grown p.incoming d.1.2.0 d.0 d.1.2.2 in
      grown_both x (grown_second d.1.2.1.0 (grown_first y d.2.0))

  line_grown : (types : List TypeItem) (i : Instr) (s end : Locals) → IsLine types i s end → Grown t (OfInstruction t i) s end
  line_grown types i s end d = grown_first (instr_grown types i s d.0 d.1) d.2.0

  case_grown : (c : Case) (s end : Locals) → IsCase c s end → Grown t (OfCase t c) s end
  case_grown c s end d = grown_both (typed_grown c.arg s d.0 d.1) (comma_grown d.2.1 (target_grown c.target d.2.0 end d.2.2))

  term_grown : (x : Terminator) (s end : Locals) → IsTerminator x s end → Grown t (OfTerminator t x) s end
  term_grown (Terminator.Jump l) s end d = grown_second d.1.0 (target_grown l d.0 end d.2)
  term_grown (Terminator.Branch c l m) s end d =
      grown_second d.1.0 (grown_both (value_grown c d.0 d.2.0 d.2.1) (comma_grown d.2.2.1 (grown_both (target_grown l d.2.2.0 d.2.2.2.0 d.2.2.2.1) (comma_grown d.2.2.2.2.1 (target_grown m d.2.2.2.2.0 end d.2.2.2.2.2)))))
  term_grown (Terminator.Switch a l cases) s end d =
      grown_second d.1.0 (grown_both (typed_grown a d.0 d.2.0 d.2.1) (comma_grown d.2.2.1 (grown_both (target_grown l d.2.2.0 d.2.2.2.0 d.2.2.2.1)
      (grown_second d.2.2.2.2.1.0 (grown_first (each_grown IsCase (OfCase t) case_grown cases d.2.2.2.2.0 d.2.2.2.2.2.0 d.2.2.2.2.2.1) d.2.2.2.2.2.2.0)))))
  term_grown (Terminator.Ret None) s end d = grown_same t (Unit {0}) s end d.0
  term_grown (Terminator.Ret (Some a)) s end d = grown_second d.1.0 (typed_grown a d.0 end d.2)
  term_grown Terminator.Unreachable s end d = grown_same t (Unit {0}) s end d.0

  body_grown : (types : List TypeItem) (b : Block) (s end : Locals) → IsBody types b s end → Grown t (Each (OfPhi t) b.phis × (Each (OfInstruction t) b.instrs × OfTerminator t b.term)) s end
  body_grown types b s end d =
      grown_both (each_grown IsPhiLine (OfPhi t) phi_grown b.phis s d.0 d.1)
      (grown_both (each_grown (IsLine types) (OfInstruction t) (line_grown types) b.instrs d.0 d.2.0 d.2.1)
      (grown_first (term_grown b.term d.2.0 d.2.2.0 d.2.2.1) d.2.2.2.0))

  entry_label_grown : (k i : ℕ) (s end : Locals) → (label i ∥ unwritten_label k i) s end → Grown t (Holds t i) s end
  entry_label_grown k i s end (inl d) = place_grown t d.0 i s end d.2
  entry_label_grown k i s end (inr d) = place_grown t (Name.Number k) i s end d.2

  block_grown : (types : List TypeItem) (b : Block) (s end : Locals) → IsBlock types b s end → Grown t (OfBlock t b) s end
  block_grown types b s end d = grown_both (place_grown t d.1.0 b.label s d.0 d.1.2) (body_grown types b d.0 end d.2)

  blocks_grown : (types : List TypeItem) (k : ℕ) (bs : List Block) (s end : Locals) → AreBlocks types k bs s end → Grown t (Each (OfBlock t) bs) s end
  blocks_grown types k [] s end d = absurd d
  blocks_grown types k (b ∷ bs) s end d =
      grown_both (grown_both (entry_label_grown k b.label s d.1.0 d.1.1) (body_grown types b d.1.0 d.0 d.1.2))
      (each_grown (IsBlock types) (OfBlock t) (block_grown types) bs d.0 end d.2)

  params_grown : (ws : List Written) (ps : List Param) (k : ℕ) (ns : List Name) (k_end : ℕ) (ns_end : List Name) → AreNamed ws ps k ns k_end ns_end → Grown t (Each (OfParam t) ps) (ns, []) (ns_end, [])
  params_grown [] [] k ns k_end ns_end h = grown_same t (Unit {0}) (ns, []) (ns_end, []) h.1
  params_grown [] (p ∷ ps) k ns k_end ns_end h = absurd h
  params_grown (w ∷ ws) [] k ns k_end ns_end h = absurd h
  params_grown (w ∷ ws) (p ∷ ps) k ns k_end ns_end h =
      grown_both {m = (h.1, [])} (place_grown t h.0 p.name (ns, []) (h.1, []) h.4) (params_grown ws ps (counted h.0 k) h.1 k_end ns_end h.5)

-- ---- functions and items

pub record IsNamedByText (f : Function) : Type 0 where
  pub different : AreDifferent f.names
  pub all : (t : ℕ → Bool) → OfFunction t f → OfTable t f.names

function_named : (types : List TypeItem) (groups : List (List ℕ)) (f : Function) (ts rest : List Sym) → IsFunction types groups f ts rest → IsNamedByText f
function_named types groups f ts rest d =
    record {
      different = (blocks always).different ((params always).different tt);
      all = λ t h. (blocks t).all h.1 ((params t).all h.0 (λ k less. absurd (omega arith)));
    }
  where
    always : ℕ → Bool
    always k = true

    params : (t : ℕ → Bool) → Grown t (Each (OfParam t) f.params) ([], []) (d.names, [])
    params t = params_grown t d.written f.params 0 [] d.numbers d.names d.params

    blocks : (t : ℕ → Bool) → Grown t (Each (OfBlock t) f.blocks) (d.names, d.body) (f.names, syms.Mark marks.CloseCurly ∷ rest)
    blocks t = blocks_grown t types d.numbers f.blocks (d.names, d.body) (f.names, syms.Mark marks.CloseCurly ∷ rest) d.blocks

items_named : (types : List TypeItem) (groups : List (List ℕ)) (is : List Item) (ts rest : List Sym) → each (IsItem types groups) is ts rest → Each IsNamedByText (functions_of is)
items_named types groups [] ts rest d = tt
items_named types groups (type_item x ∷ is) ts rest d = items_named types groups is d.0 rest d.2
items_named types groups (global_item g ∷ is) ts rest d = items_named types groups is d.0 rest d.2
items_named types groups (declaration x ∷ is) ts rest d = items_named types groups is d.0 rest d.2
items_named types groups (function f ∷ is) ts rest d = (function_named types groups f ts d.0 d.1, items_named types groups is d.0 rest d.2)
items_named types groups (group g ∷ is) ts rest d = items_named types groups is d.0 rest d.2
items_named types groups (other ∷ is) ts rest d = items_named types groups is d.0 rest d.2

pub named_by_text : (text : List ℕ) (m : Module) → StandsFor text m → Each IsNamedByText m.functions
named_by_text text m h = subst (λ (x : Module). Each IsNamedByText x.functions) (sym h.kept) (items_named (types_of h.items) (groups_of h.items) h.items (symbols_of text).symbols [] h.are)

pub texts_apart : (text : List ℕ) (m : Module) → StandsFor text m → AreNamesApart m
texts_apart text m h k f there = apart_from f.names (at_each IsNamedByText m.functions k f (named_by_text text m h) there).different
