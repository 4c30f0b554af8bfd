-- The operands, types and labels of parts that stay.
use Rattle.std.proofs.Common.{◌≡◌, ℕ, Bool, true, false, List, [], ◌∷◌, ◌++◌, refl, sym, subst}
use Rattle.std.specs.List.{list_all}
use Rattle.std.specs.Prelude.{None, Some, map, option_to_list}
use Rattle.ir_laws.proofs.facts.Truth.{and_both, and_first, and_second}
use Rattle.ir_laws.proofs.facts.Members.{each_left, each_right}
use Rattle.ir_parts.specs.Contents.{arg_operands, arg_types, callee_operands, ending_labels, ending_operands, ending_types, instr_operands, instr_types}
use Rattle.ir_laws.specs.ir_model.declared.instr.Case.{Case}
use Rattle.ir_laws.specs.ir_model.declared.instr.Incoming.{Incoming}
use Rattle.ir_laws.specs.ir_model.declared.instr.Instr.{Instr}
use Rattle.ir_laws.specs.ir_model.declared.instr.Phi.{Phi}
use Rattle.ir_laws.specs.ir_model.declared.instr.Terminator.{Terminator}
use Rattle.ir_laws.specs.ir_model.declared.operand.Arg.{Arg}
use Rattle.ir_laws.specs.ir_model.declared.operand.Callee.{Callee}
use Rattle.ir_laws.specs.ir_model.declared.operand.Operand.{Operand}
use Rattle.rule_locals.specs.Addresses.{is_indirect}
use Rattle.ir_laws.specs.run_laws.changed.Changed.{Each}
use Rattle.ir_laws.specs.facts.woven_rules.Pairs.{Empty, Pair, Pairwise}
use Rattle.rule_laws.specs.rules.woven_rules.Parts.{Alloca, Binary, Call, CalleeStays, Cast, Direct, Gep, Icmp, IncomingStays, Indirect, InstrStays, Load, PhiStays, Select, Store}
use Rattle.ir_laws.specs.facts.woven_rules.Parts.{ArgStays, Branch, Jump, Return, ReturnVoid, Switch, TermStays, Unreachable}

-- ---- lists side by side

pub pairs_joined : {A B : Type 0} (R : A → B → Type 0) (xs us : List A) (ys vs : List B) → Pairwise R xs ys → Pairwise R us vs → Pairwise R (xs ++ us) (ys ++ vs)
pairs_joined R _ us _ vs Empty k = k
pairs_joined R _ us _ vs (Pair x y xs ys h rest) k = Pair x y (xs ++ us) (ys ++ vs) h (pairs_joined R xs us ys vs rest k)

-- a test of elements, and one of those beside them
pub all_beside : {A B : Type 0} (R : A → B → Type 0) (t : A → Bool) (u : B → Bool) → ((x : A) (y : B) → R x y → t x ≡ true → u y ≡ true) → (xs : List A) (ys : List B) → Pairwise R xs ys → list_all t xs ≡ true → list_all u ys ≡ true
all_beside R t u h _ _ Empty e = refl
all_beside R t u h _ _ (Pair x y xs ys r rest) e =
    and_both (u y) (list_all u ys) (h x y r (and_first (t x) (list_all t xs) e)) (all_beside R t u h xs ys rest (and_second (t x) (list_all t xs) e))

direct_none : (c : Callee) → is_indirect c ≡ false → callee_operands c ≡ []
direct_none (Callee.Local v) e = absurd (cc)
direct_none _ e = refl

-- ---- operands in the place of operands

module _ (R : Operand → Operand → Type 0) where
  args_stay : (xs ys : List Arg) → Pairwise (ArgStays R) xs ys → Pairwise R (arg_operands xs) (arg_operands ys)
  args_stay _ _ Empty = Empty
  args_stay _ _ (Pair x y xs ys h rest) = Pair x.value y.value (arg_operands xs) (arg_operands ys) h.value (args_stay xs ys rest)

  pub one_pair : (x y : Operand) → R x y → Pairwise R (x ∷ []) (y ∷ [])
  one_pair x y h = Pair x y [] [] h Empty

  callee_pairs : (c d : Callee) → CalleeStays R c d → Pairwise R (callee_operands c) (callee_operands d)
  callee_pairs _ _ (Direct c e) = subst (λ xs. Pairwise R xs xs) (sym (direct_none c e)) Empty
  callee_pairs _ _ (Indirect v n h) = one_pair (Operand.Local v) (Operand.Local n) h

  pub instr_pairs : (i j : Instr) → InstrStays R i j → Pairwise R (instr_operands i) (instr_operands j)
  instr_pairs _ _ (Binary r op flags ty a b c d x y) = Pair a c (b ∷ []) (d ∷ []) x (one_pair b d y)
  instr_pairs _ _ (Icmp r pred ty a b c d x y) = Pair a c (b ∷ []) (d ∷ []) x (one_pair b d y)
  instr_pairs _ _ (Select r x y a b c d h s t) = Pair x y (a.value ∷ b.value ∷ []) (c.value ∷ d.value ∷ []) h (Pair a.value c.value (b.value ∷ []) (d.value ∷ []) s.value (one_pair b.value d.value t.value))
  instr_pairs _ _ (Cast r op nneg a c to h) = one_pair a.value c.value h.value
  instr_pairs _ _ (Alloca r ty align) = Empty
  instr_pairs _ _ (Load r ty x y align h) = one_pair x y h
  instr_pairs _ _ (Store a c x y align s h) = Pair a.value c.value (x ∷ []) (y ∷ []) s.value (one_pair x y h)
  instr_pairs _ _ (Gep r inbounds ty x y args now h s) = Pair x y (arg_operands args) (arg_operands now) h (args_stay args now s)
  instr_pairs _ _ (Call r must_tail ty c d args now h s) = pairs_joined R (callee_operands c) (arg_operands args) (callee_operands d) (arg_operands now) (callee_pairs c d h) (args_stay args now s)

  cases_stay : (cases : List Case) → Each (λ (k : Case). R k.arg.value k.arg.value) cases → Pairwise R (map (λ (k : Case). k.arg.value) cases) (map (λ (k : Case). k.arg.value) cases)
  cases_stay [] h = Empty
  cases_stay (c ∷ cases) h = Pair c.arg.value c.arg.value (map (λ (k : Case). k.arg.value) cases) (map (λ (k : Case). k.arg.value) cases) h.0 (cases_stay cases h.1)

  pub term_pairs : (t u : Terminator) → TermStays R t u → Pairwise R (ending_operands t) (ending_operands u)
  term_pairs _ _ (Jump label) = Empty
  term_pairs _ _ (Branch x y a b h) = one_pair x y h
  term_pairs _ _ (Switch a c default cases h s) = Pair a.value c.value (map (λ (k : Case). k.arg.value) cases) (map (λ (k : Case). k.arg.value) cases) h.value (cases_stay cases s)
  term_pairs _ _ (Return a c h) = one_pair a.value c.value h.value
  term_pairs _ _ ReturnVoid = Empty
  term_pairs _ _ Unreachable = Empty

  -- ---- types and labels

  pub args_types : (xs ys : List Arg) → Pairwise (ArgStays R) xs ys → arg_types ys ≡ arg_types xs
  args_types _ _ Empty = refl
  args_types _ _ (Pair x y xs ys h rest) = λ k. h.ty k ∷ args_types xs ys rest k

  pub same_types : (i j : Instr) → InstrStays R i j → instr_types j ≡ instr_types i
  same_types _ _ (Binary r op flags ty a b c d x y) = refl
  same_types _ _ (Icmp r pred ty a b c d x y) = refl
  same_types _ _ (Select r x y a b c d h s t) = λ k. s.ty k ∷ t.ty k ∷ []
  same_types _ _ (Cast r op nneg a c to h) = λ k. h.ty k ∷ to ∷ []
  same_types _ _ (Alloca r ty align) = refl
  same_types _ _ (Load r ty x y align h) = refl
  same_types _ _ (Store a c x y align s h) = λ k. s.ty k ∷ []
  same_types _ _ (Gep r inbounds ty x y args now h s) = λ k. ty ∷ args_types args now s k
  same_types _ _ (Call r must_tail ty c d args now h s) = λ k. option_to_list ty ++ args_types args now s k

  pub same_ending_types : (t u : Terminator) → TermStays R t u → ending_types u ≡ ending_types t
  same_ending_types _ _ (Jump label) = refl
  same_ending_types _ _ (Branch x y a b h) = refl
  same_ending_types _ _ (Switch a c default cases h s) = λ k. h.ty k ∷ map (λ (c : Case). c.arg.ty) cases
  same_ending_types _ _ (Return a c h) = λ k. h.ty k ∷ []
  same_ending_types _ _ ReturnVoid = refl
  same_ending_types _ _ Unreachable = refl

  pub same_labels : (t u : Terminator) → TermStays R t u → ending_labels u ≡ ending_labels t
  same_labels _ _ (Jump label) = refl
  same_labels _ _ (Branch x y a b h) = refl
  same_labels _ _ (Switch a c default cases h s) = refl
  same_labels _ _ (Return a c h) = refl
  same_labels _ _ ReturnVoid = refl
  same_labels _ _ Unreachable = refl

module _ (R : ℕ → Operand → Operand → Type 0) where
  pub same_incoming : (is js : List Incoming) → Pairwise (IncomingStays R) is js → map (λ (i : Incoming). i.from) js ≡ map (λ (i : Incoming). i.from) is
  same_incoming _ _ Empty = refl
  same_incoming _ _ (Pair i j is js h rest) = λ k. h.from k ∷ same_incoming is js rest k

-- ---- a relation of operands by another, where something holds of each operand that stood there

module _ (P : Operand → Type 0) (R S : Operand → Operand → Type 0) (turn : (x y : Operand) → P x → R x y → S x y) where
  arg_turns : (a b : Arg) → P a.value → ArgStays R a b → ArgStays S a b
  arg_turns a b p h = record { ty = h.ty; value = turn a.value b.value p h.value }

  args_turn : (xs ys : List Arg) → Each P (arg_operands xs) → Pairwise (ArgStays R) xs ys → Pairwise (ArgStays S) xs ys
  args_turn _ _ p Empty = Empty
  args_turn _ _ p (Pair x y xs ys h rest) = Pair x y xs ys (arg_turns x y p.0 h) (args_turn xs ys p.1 rest)

  callee_turns : (c d : Callee) → Each P (callee_operands c) → CalleeStays R c d → CalleeStays S c d
  callee_turns _ _ p (Direct c e) = Direct c e
  callee_turns _ _ p (Indirect v n h) = Indirect v n (turn (Operand.Local v) (Operand.Local n) p.0 h)

  pub instr_turns : (i j : Instr) → Each P (instr_operands i) → InstrStays R i j → InstrStays S i j
  instr_turns _ _ p (Binary r op flags ty a b c d x y) = Binary r op flags ty a b c d (turn a c p.0 x) (turn b d p.1.0 y)
  instr_turns _ _ p (Icmp r pred ty a b c d x y) = Icmp r pred ty a b c d (turn a c p.0 x) (turn b d p.1.0 y)
  instr_turns _ _ p (Select r x y a b c d h s t) = Select r x y a b c d (turn x y p.0 h) (arg_turns a c p.1.0 s) (arg_turns b d p.1.1.0 t)
  instr_turns _ _ p (Cast r op nneg a c to h) = Cast r op nneg a c to (arg_turns a c p.0 h)
  instr_turns _ _ p (Alloca r ty align) = Alloca r ty align
  instr_turns _ _ p (Load r ty x y align h) = Load r ty x y align (turn x y p.0 h)
  instr_turns _ _ p (Store a c x y align s h) = Store a c x y align (arg_turns a c p.0 s) (turn x y p.1.0 h)
  instr_turns _ _ p (Gep r inbounds ty x y args now h s) = Gep r inbounds ty x y args now (turn x y p.0 h) (args_turn args now p.1 s)
  instr_turns _ _ p (Call r must_tail ty c d args now h s) =
      Call r must_tail ty c d args now
      (callee_turns c d (each_left P (callee_operands c) (arg_operands args) p) h)
      (args_turn args now (each_right P (callee_operands c) (arg_operands args) p) s)

  cases_turn : (cases : List Case) → Each P (map (λ (k : Case). k.arg.value) cases) → Each (λ (k : Case). R k.arg.value k.arg.value) cases → Each (λ (k : Case). S k.arg.value k.arg.value) cases
  cases_turn [] p h = tt
  cases_turn (c ∷ cases) p h = (turn c.arg.value c.arg.value p.0 h.0, cases_turn cases p.1 h.1)

  pub term_turns : (t u : Terminator) → Each P (ending_operands t) → TermStays R t u → TermStays S t u
  term_turns _ _ p (Jump label) = Jump label
  term_turns _ _ p (Branch x y a b h) = Branch x y a b (turn x y p.0 h)
  term_turns _ _ p (Switch a c default cases h s) = Switch a c default cases (arg_turns a c p.0 h) (cases_turn cases p.1 s)
  term_turns _ _ p (Return a c h) = Return a c (arg_turns a c p.0 h)
  term_turns _ _ p ReturnVoid = ReturnVoid
  term_turns _ _ p Unreachable = Unreachable

module _ (P : Operand → Type 0) (R S : ℕ → Operand → Operand → Type 0) (turn : (from : ℕ) (x y : Operand) → P x → R from x y → S from x y) where
  incoming_turns : (is js : List Incoming) → Each P (map (λ (i : Incoming). i.value) is) → Pairwise (IncomingStays R) is js → Pairwise (IncomingStays S) is js
  incoming_turns _ _ p Empty = Empty
  incoming_turns _ _ p (Pair i j is js h rest) = Pair i j is js (record { from = h.from; value = turn i.from i.value j.value p.0 h.value }) (incoming_turns is js p.1 rest)

  pub phi_turns : (p q : Phi) → Each P (map (λ (i : Incoming). i.value) p.incoming) → PhiStays R p q → PhiStays S p q
  phi_turns p q k h = record { result = h.result; ty = h.ty; incoming = incoming_turns p.incoming q.incoming k h.incoming }

-- ---- a part in its own place

module _ (R : Operand → Operand → Type 0) where
  arg_itself : (a : Arg) → R a.value a.value → ArgStays R a a
  arg_itself a h = record { ty = refl; value = h }

  pub args_itself : (xs : List Arg) → Each (λ (x : Operand). R x x) (arg_operands xs) → Pairwise (ArgStays R) xs xs
  args_itself [] h = Empty
  args_itself (x ∷ xs) h = Pair x x xs xs (arg_itself x h.0) (args_itself xs h.1)

  callee_itself : (c : Callee) → Each (λ (x : Operand). R x x) (callee_operands c) → CalleeStays R c c
  callee_itself (Callee.Local v) h = Indirect v v h.0
  callee_itself (Callee.Named n) h = Direct (Callee.Named n) refl
  callee_itself (Callee.Allocator a) h = Direct (Callee.Allocator a) refl
  callee_itself (Callee.Intrinsic i) h = Direct (Callee.Intrinsic i) refl

  pub instr_itself : (i : Instr) → Each (λ (x : Operand). R x x) (instr_operands i) → InstrStays R i i
  instr_itself (Instr.Binary r op flags ty a b) h = Binary r op flags ty a b a b h.0 h.1.0
  instr_itself (Instr.Icmp r pred ty a b) h = Icmp r pred ty a b a b h.0 h.1.0
  instr_itself (Instr.Select r x a b) h = Select r x x a b a b h.0 (arg_itself a h.1.0) (arg_itself b h.1.1.0)
  instr_itself (Instr.Cast r op nneg a to) h = Cast r op nneg a a to (arg_itself a h.0)
  instr_itself (Instr.Alloca r ty align) h = Alloca r ty align
  instr_itself (Instr.Load r ty x align) h = Load r ty x x align h.0
  instr_itself (Instr.Store a x align) h = Store a a x x align (arg_itself a h.0) h.1.0
  instr_itself (Instr.Gep r inbounds ty x args) h = Gep r inbounds ty x x args args h.0 (args_itself args h.1)
  instr_itself (Instr.Call r must_tail ty c args) h =
      Call r must_tail ty c c args args
      (callee_itself c (each_left (λ (x : Operand). R x x) (callee_operands c) (arg_operands args) h))
      (args_itself args (each_right (λ (x : Operand). R x x) (callee_operands c) (arg_operands args) h))

  cases_itself : (cases : List Case) → Each (λ (x : Operand). R x x) (map (λ (k : Case). k.arg.value) cases) → Each (λ (k : Case). R k.arg.value k.arg.value) cases
  cases_itself [] h = tt
  cases_itself (c ∷ cases) h = (h.0, cases_itself cases h.1)

  pub term_itself : (t : Terminator) → Each (λ (x : Operand). R x x) (ending_operands t) → TermStays R t t
  term_itself (Terminator.Jump label) h = Jump label
  term_itself (Terminator.Branch x a b) h = Branch x x a b h.0
  term_itself (Terminator.Switch a default cases) h = Switch a a default cases (arg_itself a h.0) (cases_itself cases h.1)
  term_itself (Terminator.Ret None) h = ReturnVoid
  term_itself (Terminator.Ret (Some a)) h = Return a a (arg_itself a h.0)
  term_itself Terminator.Unreachable h = Unreachable
