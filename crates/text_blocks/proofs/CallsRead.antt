-- Calls: what is read is of the grammar, and what is of the grammar is read.
use Rattle.std.proofs.Common.{◌≡◌, ℕ, Bool, true, false, List, [], ◌∷◌, Option, None, refl, sym, ap, ◌∙◌}
use Rattle.std.specs.Prelude.{Some, IfSome}
use Rattle.ir_base.specs.declared.name.Name.{Name}
use Rattle.ir_base.specs.declared.name.Name.TheVariants.{Number, Text}
use Rattle.ir_model.specs.Table.{callee_named, callee_or, intrinsic_in, allocator_in, all_intrinsics, all_allocators}
use Rattle.ir_model.specs.Ty.{Ty, int, ptr, token, array, structure, named}
use Rattle.ir_model.specs.declared.instr.Instr.{Instr}
use Rattle.ir_model.specs.declared.instr.Instr.TheVariants as instrs
use Rattle.ir_model.specs.declared.operand.Allocator.{Allocator}
use Rattle.ir_model.specs.declared.operand.Arg.{Arg}
use Rattle.ir_model.specs.declared.operand.Callee.{Callee}
use Rattle.ir_model.specs.declared.operand.Callee.TheVariants as callees
use Rattle.ir_model.specs.declared.operand.Intrinsic.{Intrinsic}
use Rattle.text_symbols.specs.declared.sym.Mark.TheVariants as marks
use Rattle.text_symbols.specs.declared.sym.Sym.{Sym}
use Rattle.text_symbols.specs.declared.sym.Sym.TheVariants as syms
use Rattle.text_symbols.specs.declared.word.Word.TheVariants as words
use Rattle.text_grammar.specs.Attributes.{attributes}
use Rattle.text_grammar.specs.Phrases.{Locals, ◌⨾◌, each, mark, plain, comma, behind_comma, listed}
use Rattle.text_grammar.specs.Types.{IsType, IsResult}
use Rattle.text_grammar.specs.Values.{IsPlace, IsArg}
use Rattle.text_grammar.specs.Instructions.{IsCallee, IsTail, AreArgs, IsCall}
use Rattle.text_grammar.proofs.Takes.{takes_keeps, left, behind_comma_takes, arg_takes}
use Rattle.text_reader.specs.Attrs.{behind_attrs}
use Rattle.text_reader.specs.Many.{after, many_at}
use Rattle.text_reader.specs.Reading.{◌>>=◌, mark_at}
use Rattle.text_reader.specs.Types.{type_at}
use Rattle.text_reader.specs.Values.{named_at, arg_at}
use Rattle.text_reader.proofs.Binding.{bind_found, bind_again}
use Rattle.text_reader.proofs.Follow.{EndsAttrs, behind_attrs_found, behind_attrs_again, result_starts}
use Rattle.text_reader.proofs.ListsRead.{many_found, many_again}
use Rattle.text_reader.proofs.PlacesRead.{named_found, named_again}
use Rattle.text_reader.proofs.TypesRead.{type_found, type_again}
use Rattle.text_reader.proofs.ValuesRead.{arg_found, arg_again}
use Rattle.text_blocks.specs.Calls.{result_at, callee_at, begins_comma, next_arg_at, args_at, call_at}
use Rattle.text_blocks.proofs.StepsRead.{mark_step, mark_finds, after_finds}

-- ---- results

type_result : (ts : List Sym) → IfSome {T = Option Ty × List Sym} (type_at ts >>= λ t. Some (Some t.0, t.1)) (λ r. IsResult r.0 ts r.1)
type_result ts = bind_found (type_at ts) _ (λ t. IsType t.0 ts t.1) _ (type_found ts) (λ t h. h)

pub result_found : (ts : List Sym) → IfSome (result_at ts) (λ r. IsResult r.0 ts r.1)
unfolding result_at
result_found (syms.Word words.Void ∷ ts) = refl
result_found ts = type_result ts

by_type : (t : Ty) (ts rest : List Sym) → IsType t ts rest → result_at ts ≡ (type_at ts >>= λ t. Some (Some t.0, t.1))
unfolding result_at
by_type (int n) ts rest h = rw h.2 refl
by_type ptr ts rest h = rw h refl
by_type token ts rest h = rw h refl
by_type (array n t) ts rest h = rw h.1 refl
by_type (structure fs) ts rest h = rw h.1 refl
by_type (named n) ts rest h = rw h refl

pub result_again : (t : Option Ty) (ts rest : List Sym) → IsResult t ts rest → result_at ts ≡ Some (t, rest)
unfolding result_at
result_again None ts rest h = ap result_at h
result_again (Some t) ts rest h = by_type t ts rest h ∙ bind_again (type_at ts) (t, rest) _ _ (type_again t ts rest h) refl

-- ---- callees

abbrev IsDirect : Callee → Type 0
IsDirect (callees.Local i) = ⊥
IsDirect _ = Unit {0}

or_direct : (n : Name) (i : Option Intrinsic) (a : Option Allocator) → IsDirect (callee_or n i a)
or_direct n (Some i) a = tt
or_direct n None (Some a) = tt
or_direct n None None = tt

named_direct : (n : Name) → IsDirect (callee_named n)
named_direct (Number n) = tt
named_direct (Text t) = or_direct (Text t) (intrinsic_in all_intrinsics t) (allocator_in all_allocators t)

direct_callee : (c : Callee) (n : Name) (ns : List Name) (ts : List Sym) → IsDirect c → c ≡ callee_named n → IsCallee c (ns, syms.Global (Some n) ∷ ts) (ns, ts)
direct_callee (callees.Local i) n ns ts h e = absurd h
direct_callee (callees.Named m) n ns ts h e = (refl, (n, e, refl))
direct_callee (callees.Allocator a) n ns ts h e = (refl, (n, e, refl))
direct_callee (callees.Intrinsic i) n ns ts h e = (refl, (n, e, refl))

callee_found : (ns : List Name) (ts : List Sym) → IfSome (callee_at ns ts) (λ r. IsCallee r.0 (ns, ts) (r.1, r.2))
unfolding callee_at
callee_found ns (syms.Global None ∷ ts) = tt
callee_found ns (syms.Global (Some n) ∷ ts) = direct_callee (callee_named n) n ns ts (named_direct n) refl
callee_found ns (syms.Local n ∷ ts) =
    bind_found (named_at ns n) _ (λ r. (name : Name) × (n ≡ Some name) × IsPlace ns name r.0 r.1) _ (named_found ns n)
    (λ r h. (h.0, ap (λ (o : Option Name). syms.Local o ∷ ts) h.1, h.2))
callee_found ns _ = tt

named_callee : (c : Callee) (n : Name) (s end : Locals) → s.0 ≡ end.0 → c ≡ callee_named n → s.1 ≡ syms.Global (Some n) ∷ end.1 → callee_at s.0 s.1 ≡ Some (c, end.0, end.1)
unfolding callee_at
named_callee c n s end e k g =
    ap (callee_at s.0) g ∙ ap (λ (x : Callee). Some (x, s.0, end.1)) (sym k) ∙ ap (λ (l : List Name). Some (c, l, end.1)) e

callee_again : (c : Callee) (s end : Locals) → IsCallee c s end → callee_at s.0 s.1 ≡ Some (c, end.0, end.1)
unfolding callee_at
callee_again (callees.Local i) s end h = ap (callee_at s.0) h.1 ∙ ap (λ o. o >>= λ r. Some (callees.Local r.0, r.1, end.1)) (named_again s.0 h.0 i end.0 h.2)
callee_again (callees.Named m) s end h = named_callee (callees.Named m) h.1.0 s end h.0 h.1.1 h.1.2
callee_again (callees.Allocator a) s end h = named_callee (callees.Allocator a) h.1.0 s end h.0 h.1.1 h.1.2
callee_again (callees.Intrinsic i) s end h = named_callee (callees.Intrinsic i) h.1.0 s end h.0 h.1.1 h.1.2

-- ---- arguments

next_arg_found : (ns : List Name) (ts : List Sym) → IfSome (next_arg_at ns ts) (λ r. behind_comma IsArg r.0 (ns, ts) (r.1, r.2))
next_arg_found ns ts = mark_finds marks.Comma ns ts (arg_at ns) _ (λ rest c. bound (arg_at ns rest) rest c (arg_found ns rest))
  where
    bound : (o : Option (Arg × List Name × List Sym)) (rest : List Sym) → comma (ns, ts) (ns, rest) → IfSome o (λ r. IsArg r.0 (ns, rest) (r.1, r.2)) → IfSome o (λ r. behind_comma IsArg r.0 (ns, ts) (r.1, r.2))
    bound None rest c h = tt
    bound (Some r) rest c h = ((ns, rest), c, h)

next_arg_again : (a : Arg) (s end : Locals) → behind_comma IsArg a s end → next_arg_at s.0 s.1 ≡ Some (a, end.0, end.1)
next_arg_again a s end h = mark_step marks.Comma arg_at s h.0 _ h.1 (arg_again a h.0 end h.2)

-- arguments and the bracket behind them
abbrev pub Closed : List Arg → Locals → Locals → Type 0
Closed args = AreArgs args ⨾ plain (mark marks.CloseRound)

-- the first argument and those behind it
abbrev several_at : List Name → List Sym → Option (List Arg × List Name × List Sym)
several_at ns ts = arg_at ns ts >>= λ first. after (first.0 ∷ []) (many_at begins_comma next_arg_at first.1 first.2) >>= λ all. mark_at marks.CloseRound all.2 >>= λ closed. Some (all.0, all.1, closed)

-- at least one argument
abbrev Several : List Arg → Locals → Locals → Type 0
Several args = listed IsArg args ⨾ plain (mark marks.CloseRound)

several_closed : (args : List Arg) (s end : Locals) → Several args s end → Closed args s end
several_closed [] s end h = absurd h.1
several_closed (a ∷ args) s end h = h

several_found : (ns : List Name) (ts : List Sym) → IfSome (several_at ns ts) (λ r. Closed r.0 (ns, ts) (r.1, r.2))
several_found ns ts =
    bind_found (arg_at ns ts) _ (λ r. IsArg r.0 (ns, ts) (r.1, r.2)) _ (arg_found ns ts)
    (λ a h. bind_found (after (a.0 ∷ []) (many_at begins_comma next_arg_at a.1 a.2)) _ (λ r. listed IsArg r.0 (ns, ts) (r.1, r.2)) _
    (after_finds a.0 (many_at begins_comma next_arg_at a.1 a.2) (λ r. each (behind_comma IsArg) r.0 (a.1, a.2) (r.1, r.2)) (λ r. listed IsArg r.0 (ns, ts) (r.1, r.2)) (many_found (behind_comma IsArg) begins_comma next_arg_at next_arg_found a.1 a.2) (λ r k. ((a.1, a.2), h, k)))
    (λ all k. mark_finds marks.CloseRound all.1 all.2 _ _ (λ rest c. several_closed all.0 (ns, ts) (all.1, rest) ((all.1, all.2), k, c))))

args_found : (ns : List Name) (ts : List Sym) → IfSome (args_at ns ts) (λ r. Closed r.0 (ns, ts) (r.1, r.2))
unfolding args_at
args_found ns (syms.Mark marks.CloseRound ∷ ts) = ((ns, syms.Mark marks.CloseRound ∷ ts), refl, (refl, refl))
args_found ns ts = several_found ns ts

by_first : (t : Ty) (ns : List Name) (ts rest : List Sym) → IsType t ts rest → args_at ns ts ≡ several_at ns ts
unfolding args_at
by_first (int n) ns ts rest h = rw h.2 refl
by_first ptr ns ts rest h = rw h refl
by_first token ns ts rest h = rw h refl
by_first (array n t) ns ts rest h = rw h.1 refl
by_first (structure fs) ns ts rest h = rw h.1 refl
by_first (named n) ns ts rest h = rw h refl

no_comma : (s end : Locals) → plain (mark marks.CloseRound) s end → begins_comma s.1 ≡ false
no_comma s end h = ap begins_comma h.1

args_again : (args : List Arg) (s end : Locals) → Closed args s end → args_at s.0 s.1 ≡ Some (args, end.0, end.1)
unfolding args_at
args_again [] s end h =
    ap (λ (l : Locals). args_at l.0 l.1) h.1 ∙ ap (args_at h.0.0) h.2.1 ∙ ap (λ (l : List Name). Some ([], l, end.1)) h.2.0
args_again (a ∷ args) s end h =
    let first : IsArg a s h.1.0 = h.1.1 in
    let commas : (b : Arg) (u v : Locals) → behind_comma IsArg b u v → begins_comma u.1 ≡ true = λ b u v k. ap begins_comma k.1.1 in
    by_first a.ty s.0 s.1 first.1.1.0 first.1.1.1
    ∙ bind_again (arg_at s.0 s.1) (a, h.1.0.0, h.1.0.1) _ _ (arg_again a s h.1.0 first)
    (bind_again (after (a ∷ []) (many_at begins_comma next_arg_at h.1.0.0 h.1.0.1)) (a ∷ args, h.0.0, h.0.1) _ _
    (ap (after (a ∷ [])) (many_again (behind_comma IsArg) begins_comma next_arg_at (λ _. Unit {0}) (behind_comma_takes IsArg (λ b. takes_keeps left (IsArg b) (arg_takes b))) (λ b u v k _. next_arg_again b u v k) commas (λ b u v k. tt) args h.1.0 h.0 h.1.2 tt (no_comma h.0 end h.2)))
    (mark_step marks.CloseRound (λ ns rest. Some (a ∷ args, ns, rest)) h.0 end _ h.2 refl))

-- ---- calls

-- behind `call`: what is made of it, by the phrase that it is
pub call_found : (result : Option ℕ) (must : Bool) (ns : List Name) (us ts : List Sym) (R : Instr → Locals → Type 0) → IsTail must us (syms.Word words.Call ∷ ts) → ((t : Option Ty) (callee : Callee) (args : List Arg) (end : Locals) → IsCall must t callee args (ns, us) end → R (instrs.Call result must t callee args) end) → IfSome (call_at result must ns ts) (λ r. R r.0 (r.1, r.2))
unfolding call_at
call_found result must ns us ts R tail k =
    bind_found (result_at (behind_attrs ts)) _ (λ r. IsResult r.0 (behind_attrs ts) r.1) _ (result_found (behind_attrs ts))
    (λ t h. bind_found (callee_at ns t.1) _ (λ r. IsCallee r.0 (ns, t.1) (r.1, r.2)) _ (callee_found ns t.1)
    (λ c g. mark_finds marks.OpenRound c.1 c.2 _ _
    (λ opened o. bind_found (args_at c.1 opened) _ (λ r. Closed r.0 (c.1, opened) (r.1, r.2)) _ (args_found c.1 opened)
    (λ inside a. k t.0 c.0 inside.0 (inside.1, behind_attrs inside.2)
    ((ns, t.1), (refl, (syms.Word words.Call ∷ ts, tail, (ts, refl, (behind_attrs ts, behind_attrs_found ts, h)))), ((c.1, c.2), g, ((c.1, opened), o, (a.0, a.1, (a.2.0, (inside.2, a.2.1, behind_attrs_found inside.2))))))))))

pub call_again : (result : Option ℕ) (must : Bool) (t : Option Ty) (callee : Callee) (args : List Arg) (ns : List Name) (ts us : List Sym) (s end : Locals) → (attributes ⨾ IsResult t) ts s.1 → ns ≡ s.0 → (IsCallee callee ⨾ plain (mark marks.OpenRound) ⨾ AreArgs args ⨾ plain (mark marks.CloseRound ⨾ attributes)) s end → EndsAttrs end.1 → call_at result must ns ts ≡ Some (instrs.Call result must t callee args, end.0, end.1)
unfolding call_at
call_again result must t callee args ns ts us s end r e h ends =
    let m2 : Locals = h.0 in
    let m3 : Locals = h.2.0 in
    let m4 : Locals = h.2.2.0 in
    let close : plain (mark marks.CloseRound ⨾ attributes) m4 end = h.2.2.2 in
    bind_again (result_at (behind_attrs ts)) (t, s.1) _ _ (ap result_at (behind_attrs_again ts r.0 r.1 (result_starts t r.0 s.1 r.2)) ∙ result_again t r.0 s.1 r.2)
    (bind_again (callee_at ns s.1) (callee, m2.0, m2.1) _ _ (ap (λ l. callee_at l s.1) e ∙ callee_again callee s m2 h.1)
    (mark_step marks.OpenRound (λ ns opened. args_at ns opened >>= λ inside. Some (instrs.Call result must t callee inside.0, inside.1, behind_attrs inside.2)) m2 m3 _ h.2.1
    (bind_again (args_at m3.0 m3.1) (args, m4.0, close.1.0) _ _ (args_again args m3 (m4.0, close.1.0) (m4, h.2.2.1, (refl, close.1.1)))
    (ap (λ (l : List Sym). Some (instrs.Call result must t callee args, m4.0, l)) (behind_attrs_again close.1.0 end.1 close.1.2 ends)
    ∙ ap (λ (l : List Name). Some (instrs.Call result must t callee args, l, end.1)) close.0))))
