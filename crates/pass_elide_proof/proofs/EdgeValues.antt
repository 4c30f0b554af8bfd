-- What both runs look at at the ends of blocks, and what stays of their topmost activations there.
use Rattle.std.proofs.Common.{◌≡◌, ◌<◌, ◌≤◌, ◌+◌, inl, inr, ⊎_elim, ℕ, suc, Bool, true, false, List, [], ◌∷◌, ◌++◌, length, refl, sym, ap, ◌∙◌, subst, arith, length-append}
use Rattle.std.specs.Prelude.{ℤ, None, Option, Some, map, if◌then◌else◌}
use Rattle.pass_elide.specs.Elided.{frame_allocas}
use Rattle.pass_elide.specs.declared.given.GivenFrame.{GivenFrame}
use Rattle.pass_elide_proof.proofs.TopMoved.{gone_on}
use Rattle.pass_elide_proof.specs.Edges.{IsAlike, IsNoAnswer, chosen_by}
use Rattle.pass_elide_proof.specs.Elision.{Elision, Shape, function_in, rooms}
use Rattle.pass_elide_proof.specs.Match.{AreAsked, AreElided, AreReleased, HasAlloca, HasAllocas, Sides, sides}
use Rattle.pass_elide_proof.specs.Places.{allocas_ahead}
use Rattle.pass_proofs.proofs.ir_laws.facts.Lists.{none_of}
use Rattle.pass_proofs.proofs.ir_tables.Tables.{first_where-within}
use Rattle.pass_proofs.specs.ir_base.declared.name.Name.{Name}
use Rattle.pass_proofs.specs.ir_base.declared.outcome.Word.{Word}
use Rattle.pass_proofs.specs.ir_model.Names.{declaration_named, function_named, global_named, same_name}
use Rattle.pass_proofs.specs.ir_model.Ty.{Ty, array, int, named, ptr, structure, token}
use Rattle.pass_proofs.specs.ir_model.declared.instr.Case.{Case}
use Rattle.pass_proofs.specs.ir_model.declared.instr.Instr.{Instr}
use Rattle.pass_proofs.specs.ir_model.declared.instr.Terminator.{Terminator}
use Rattle.pass_proofs.specs.ir_model.declared.module.GlobalItem.{GlobalItem}
use Rattle.pass_proofs.specs.ir_model.declared.module.Module.{Module}
use Rattle.pass_proofs.specs.ir_model.declared.operand.Arg.{Arg}
use Rattle.pass_proofs.specs.ir_model.declared.operand.Operand.{Operand}
use Rattle.pass_proofs.specs.run_laws.changed.Changed.{Each}
use Rattle.pass_proofs.specs.run_laws.embedded.Deaths.{moved_slot}
use Rattle.pass_proofs.specs.run_laws.embedded.Making.{whole_home}
use Rattle.pass_proofs.specs.run_laws.memory.Pointers.{Home, IsValue, home_of}
use Rattle.pass_proofs.specs.run_memory.Pointers.{moved, offset_of}
use Rattle.pass_proofs.specs.run_memory.declared.pointer.Pointer.{Pointer}
use Rattle.pass_proofs.specs.run_memory.declared.pointer.Value.{Value}
use Rattle.pass_proofs.specs.run_source.declared.state.Activation.{Activation}
use Rattle.pass_proofs.specs.run_source.declared.state.State.{State}
use Rattle.pass_proofs.specs.run_step.Step.{Context, GoTo, Work, branch, is_word, switch, target_of, term_action, value_at}
use Rattle.pass_proofs.specs.run_step.Values.{Env, address_from, address_of, arg_value, literal, operand_value, pointer_to, value_in}
use Rattle.pass_proofs.specs.run_step.declared.world.Slot.{Slot}

-- ---- operands

literal_itself : (homes : List Home) (ty : Ty) (z : ℤ) → IsValue homes (literal ty z) (literal ty z)
literal_itself homes (int w) z = refl
literal_itself homes ptr z = tt
literal_itself homes token z = tt
literal_itself homes (array n t) z = tt
literal_itself homes (structure ts) z = tt
literal_itself homes (named n) z = tt

module _ (m : Module) (homes : List Home)
    (globals : (n : ℕ) → n < length m.globals → home_of homes n ≡ whole_home n) where
  block_itself : (k : ℕ) → home_of homes k ≡ whole_home k → IsValue homes (pointer_to k) (pointer_to k)
  block_itself k home = (
    ap (λ (h : Home). h.is_seen) home,
    ap (λ (h : Home). Value.Ptr (Pointer.At h.block (moved (offset_of 0) h.offset))) (sym home),
  )

  address_itself : (n : Name) → IsValue homes (address_of m n) (address_of m n)
  address_itself n = on (function_named m n) (global_named m n) (declaration_named m n) refl
    where
      on : (f g d : Option ℕ) → global_named m n ≡ g → IsValue homes (address_from m f g d) (address_from m f g d)
      on (Some f) g d is = (tt, refl)
      on None (Some k) d is =
          block_itself k
          (globals k (first_where-within (λ (x : GlobalItem). same_name x.name n) m.globals k (sym is)))
      on None None (Some d) is = (tt, refl)
      on None None None is = tt

  pub operand_in : (env other : Env) (x : Operand)
      → ((v : ℕ) → x ≡ Operand.Local v → IsValue homes (value_in env v) (value_in other v)) → (ty : Ty)
      → IsValue homes (operand_value m env ty x) (operand_value m other ty x)
  operand_in env other (Operand.Local v) h ty = h v refl
  operand_in env other (Operand.Global n) h ty = address_itself n
  operand_in env other (Operand.Number z) h ty = literal_itself homes ty z
  operand_in env other Operand.True h ty = refl
  operand_in env other Operand.False h ty = refl
  operand_in env other Operand.Null h ty = (tt, refl)
  operand_in env other Operand.None h ty = tt
  operand_in env other Operand.Poison h ty = tt

-- an operand that is no name that differs
pub operand_stands : (e : Elision) (s t : State) (r : AreElided e s t) (x : Operand) → IsAlike e s t x → (ty : Ty)
    → IsValue r.homes (operand_value e.code s.top.values ty x) (operand_value e.code t.top.values ty x)
operand_stands e s t r x alike ty =
    operand_in e.code r.homes r.globals s.top.values t.top.values x (λ v is. r.top.values.each v (alike v is)) ty

-- ---- terminators

branch_too : (homes : List Home) (v w : Value) (one other label : ℕ) → IsValue homes v w
    → branch v one other ≡ GoTo label → branch w one other ≡ GoTo label
branch_too homes (Value.Int x) w one other label is h = ap (λ (u : Value). branch u one other) is ∙ h
branch_too homes Value.Poison w one other label is h = absurd (cc)
branch_too homes (Value.Ptr p) w one other label is h = absurd (cc)

target_same : (m n : Module) → ((k : Arg) → arg_value n [] k ≡ arg_value m [] k) → (x : Word) (default : ℕ)
    (cases : List Case) → target_of n x default cases ≡ target_of m x default cases
target_same m n same x default [] = refl
target_same m n same x default (k ∷ cases) =
    λ i. if is_word x (same k.arg i) then k.target else target_same m n same x default cases i

switch_too : (homes : List Home) (m n : Module) → ((k : Arg) → arg_value n [] k ≡ arg_value m [] k) → (v w : Value)
    (default : ℕ) (cases : List Case) (label : ℕ) → IsValue homes v w → switch m v default cases ≡ GoTo label
    → switch n w default cases ≡ GoTo label
switch_too homes m n same (Value.Int x) w default cases label is h =
    ap (λ (u : Value). switch n u default cases) is
    ∙ (ap (λ (l : ℕ). GoTo l) (target_same m n same x default cases) ∙ h)
switch_too homes m n same Value.Poison w default cases label is h = absurd (cc)
switch_too homes m n same (Value.Ptr p) w default cases label is h = absurd (cc)

-- it goes to the same label where what it looks at stands for what it looks at there
pub goes_too : (homes : List Home) (c d : Context) (w x : Work) (term : Terminator) (label : ℕ)
    → ((k : Arg) → arg_value d.code [] k ≡ arg_value c.code [] k)
    → ((ty : Ty) → IsValue homes (operand_value c.code w.values ty (chosen_by term)) (operand_value d.code x.values
    ty (chosen_by term)))
    → term_action c w term ≡ GoTo label → term_action d x term ≡ GoTo label
goes_too homes c d w x (Terminator.Jump to) label same stands h = h
goes_too homes c d w x (Terminator.Branch a one other) label same stands h =
    branch_too homes (value_at c w (int 1) a) (value_at d x (int 1) a) one other label (stands (int 1)) h
goes_too homes c d w x (Terminator.Switch arg default cases) label same stands h =
    switch_too homes c.code d.code same (arg_value c.code w.values arg) (arg_value d.code x.values arg) default cases
    label (stands arg.ty) h
goes_too homes c d w x (Terminator.Ret None) label same stands h = h
goes_too homes c d w x (Terminator.Ret (Some arg)) label same stands h = absurd (cc)
goes_too homes c d w x Terminator.Unreachable label same stands h = absurd (cc)

-- ---- allocas in front

module _ (homes : List Home) (hides : ℕ → Bool) (d : Sides) (c b : Activation) (own : List Slot) (n : ℕ)
    (kept : (v : ℕ) → n ≤ v → value_in b.values v ≡ value_in c.values v) where
  same_name_of : (v u size other align to : ℕ)
      → Instr.Alloca v (array size (int 8)) align ≡ Instr.Alloca u (array other (int 8)) to → v ≡ u
  same_name_of v u size other align to e = cc

  pub each_kept : (k : ℕ) (rs : List GivenFrame) → n ≤ k → Each (HasAlloca homes hides d c own) (frame_allocas k rs)
      → Each (HasAlloca homes hides d b own) (frame_allocas k rs)
  each_kept k [] le h = tt
  each_kept k (GivenFrame.Alloca size align ∷ rs) le h =
      let x = h.0 in
      let name : k ≡ x.name = same_name_of k x.name size x.size align x.align x.is in (
        record {
          name = x.name;
          size = x.size;
          align = x.align;
          is = x.is;
          block = x.block;
          address = kept x.name (omega (arith, le, name)) ∙ x.address;
          slot = x.slot;
          there = x.there;
          is_there = x.is_there;
          kind = x.kind;
          live = x.live;
          sized = x.sized;
          full = x.full;
          free = x.free;
        },
        each_kept (k + 1) rs (omega (arith, le)) h.1,
      )
  each_kept k (GivenFrame.Field base distance ∷ rs) le h = each_kept (k + 1) rs (omega (arith, le)) h

pub map_long : {A B : Type 0} (h : A → B) (xs : List A) → length (map h xs) ≡ length xs
map_long h [] = refl
map_long h (y ∷ ys) = ap suc (map_long h ys)

-- they have been made where there are as many slots more
pub all_made : (e : Elision) (s t : State) (r : AreElided e s t)
    → length t.top.slots ≡ length s.top.slots + length (allocas_ahead (rooms e s.top.func) (function_in e s.top.func))
    → Each (HasAlloca r.homes r.hides (sides s t) t.top r.top.own)
    (allocas_ahead (rooms e s.top.func) (function_in e s.top.func))
    × (length r.top.own ≡ length (allocas_ahead (rooms e s.top.func) (function_in e s.top.func)))
all_made e s t r made = on r.top.own r.top.slots r.top.allocas
  where
    on : (own : List Slot) → t.top.slots ≡ map (moved_slot r.homes) s.top.slots ++ own
        → HasAllocas e r.homes r.hides (sides s t) s.top t.top own
        → Each (HasAlloca r.homes r.hides (sides s t) t.top own)
        (allocas_ahead (rooms e s.top.func) (function_in e s.top.func))
        × (length own ≡ length (allocas_ahead (rooms e s.top.func) (function_in e s.top.func)))
    on own is (inr h) = h
    on own is (inl first) =
        let ahead = allocas_ahead (rooms e s.top.func) (function_in e s.top.func) in
        let slots = ap (λ (xs : List Slot). length xs) is in
        let both = length-append (map (moved_slot r.homes) s.top.slots) own in
        let few = map_long (moved_slot r.homes) s.top.slots in
        let empty = ap (λ (xs : List Slot). length xs) first.2 in
        let none : length ahead ≡ 0 = omega (arith, made, slots, both, few, empty) in (
          subst (λ (is : List Instr). Each (HasAlloca r.homes r.hides (sides s t) t.top own) is)
              (sym (none_of ahead none)) tt,
          empty ∙ sym none,
        )

-- ---- what intrinsics on frames gave

pub yes_no : (p : Bool) → p ≡ true → p ≡ false → ⊥
yes_no true y n = absurd (cc)
yes_no false y n = absurd (cc)

pub some_none : {A : Type 0} (o : Option A) (q : A) → o ≡ Some q → o ≡ None → ⊥
some_none None q y n = absurd (cc)
some_none (Some p) q y n = absurd (cc)

-- it stays where both activations go on with values in which no such name is set
module _ (x : Shape) (d : Sides) (a c : Activation) (block at : ℕ) (vs : Env) (left : Bool) (other to : ℕ) (ws : Env)
    (right : Bool)
    (first : (v : ℕ) → (IsNoAnswer x v → ⊥) → value_in vs v ≡ value_in a.values v)
    (second : (v : ℕ) → (IsNoAnswer x v → ⊥) → value_in ws v ≡ value_in c.values v) where
  needed : (v : ℕ) → x.need v ≡ true → IsNoAnswer x v → ⊥
  needed v is h = yes_no (x.need v) is h.need

  freeing : (v : ℕ) → x.freed v ≡ true → IsNoAnswer x v → ⊥
  freeing v is h = yes_no (x.freed v) is h.freed

  testing : (v : ℕ) (p : Bool) → x.tested v ≡ Some p → IsNoAnswer x v → ⊥
  testing v p is h = some_none (x.tested v) p is h.tested

  pub asked_kept : AreAsked x a c
      → AreAsked x (gone_on a block at vs left) (gone_on c other to ws right)
  asked_kept h v is =
      ⊎_elim (λ none. inl (first v (needed v is) ∙ none))
      (λ both. inr (first v (needed v is) ∙ both.0, second v (needed v is) ∙ both.1)) (h v is)

  pub released_kept : AreReleased x d a c
      → AreReleased x d (gone_on a block at vs left) (gone_on c other to ws right)
  released_kept h = record {
    freed = λ v is. ⊎_elim (λ none. inl (first v (freeing v is) ∙ none))
        (λ both. inr (second v (freeing v is) ∙ both.0, (both.1.0, both.1.1, first v (freeing v is) ∙ both.1.2)))
        (h.freed v is);
    tested = λ v p is. ⊎_elim (λ none. inl (first v (testing v p is) ∙ none))
        (λ both. inr (first v (testing v p is) ∙ both.0, second v (testing v p is) ∙ both.1)) (h.tested v p is);
  }
