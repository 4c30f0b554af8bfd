-- What are items of a text with some types and groups are items of a text with others, but for alignments that aren't
-- written and for which functions are coroutines.
use Rattle.std.proofs.Common.{◌≡◌, ℕ, List, [], ◌∷◌, length, None, refl, ap, subst, suc, ◌⊎◌, inl, inr}
use Rattle.std.specs.Prelude.{Some}
use Rattle.ir_model.specs.Ty.{Ty}
use Rattle.ir_model.specs.declared.instr.Instr.{Instr}
use Rattle.ir_model.specs.declared.instr.Instr.TheVariants as instrs
use Rattle.ir_model.specs.declared.module.Block.{Block}
use Rattle.ir_model.specs.declared.module.Function.{Function}
use Rattle.ir_model.specs.declared.module.GlobalItem.{GlobalItem}
use Rattle.ir_model.specs.declared.module.TypeItem.{TypeItem}
use Rattle.text_symbols.specs.declared.sym.Mark.TheVariants as marks
use Rattle.text_symbols.specs.declared.sym.Sym.{Sym}
use Rattle.text_symbols.specs.declared.sym.Sym.TheVariants as syms
use Rattle.ir_alignments.specs.Alignment.{align_in}
use Rattle.text_grammar.specs.Attributes.{make_coroutine}
use Rattle.text_grammar.specs.Blocks.{IsLine, IsBody, label, unwritten_label, IsBlock, AreBlocks}
use Rattle.text_grammar.specs.Functions.{IsFunction}
use Rattle.text_grammar.specs.Instructions.{IsInstr}
use Rattle.text_grammar.specs.Items.{Item, type_item, global_item, declaration, function, group, other, IsGlobal, IsItem, types_of, groups_of}
use Rattle.text_grammar.specs.Phrases.{Locals, each}
use Rattle.text_grammar.specs.Values.{IsPlace, IsAligned}

module _ (types more : List TypeItem) where
  aligned : (t : Ty) (n : ℕ) (ts rest : List Sym) → IsAligned types t n ts rest → (m : ℕ) × IsAligned more t m ts rest
  aligned t n ts rest (inl h) = (n, inl h)
  aligned t n ts rest (inr (inl h)) = (n, inr (inl h))
  aligned t n ts rest (inr (inr h)) = (align_in more t, inr (inr (refl, h.1)))

  instr : (i : Instr) (s end : Locals) → IsInstr types i s end → (j : Instr) × IsInstr more j s end
  instr (instrs.Binary r op f t a b) s end h = (instrs.Binary r op f t a b, h)
  instr (instrs.Icmp r p t a b) s end h = (instrs.Icmp r p t a b, h)
  instr (instrs.Select r c x y) s end h = (instrs.Select r c x y, h)
  instr (instrs.Cast r op nneg a t) s end h = (instrs.Cast r op nneg a t, h)
  instr (instrs.Alloca r t n) s end (m, h, (e, (u, w, (x, ty, al)))) =
      let a = aligned t n x end.1 al in (instrs.Alloca r t a.0, (m, h, (e, (u, w, (x, ty, a.1)))))
  instr (instrs.Load r t p n) s end (m, h, (v, ty, (x, address, (e, al)))) =
      let a = aligned t n x.1 end.1 al in (instrs.Load r t p a.0, (m, h, (v, ty, (x, address, (e, a.1)))))
  instr (instrs.Store b p n) s end (v, w, (y, arg, (x, address, (e, al)))) =
      let a = aligned b.ty n x.1 end.1 al in (instrs.Store b p a.0, (v, w, (y, arg, (x, address, (e, a.1)))))
  instr (instrs.Gep r inbounds t p is) s end h = (instrs.Gep r inbounds t p is, h)
  instr (instrs.Call (Some r) must t callee args) s end h = (instrs.Call (Some r) must t callee args, h)
  instr (instrs.Call None must t callee args) s end h = (instrs.Call None must t callee args, h)

  lines : (is : List Instr) (s end : Locals) → each (IsLine types) is s end → (js : List Instr) × each (IsLine more) js s end
  lines [] s end h = ([], h)
  lines (i ∷ is) s end (m, (x, h, md), rest) =
      let a = instr i s x h in
      let b = lines is m end rest in
      (a.0 ∷ b.0, (m, (x, a.1, md), b.1))

  body : (b : Block) (s end : Locals) → IsBody types b s end → (c : Block) × (b.label ≡ c.label) × IsBody more c s end
  body b s end (m, ps, (x, is, t)) = let a = lines b.instrs m x is in (record b { instrs = a.0 }, refl, (m, ps, (x, a.1, t)))

  block : (b : Block) (s end : Locals) → IsBlock types b s end → (c : Block) × IsBlock more c s end
  block b s end (m, l, h) =
      let c = body b m end h in (c.0, (m, (l.0, l.1, subst (λ (i : ℕ). IsPlace s.0 l.0 i m.0) c.1 l.2), c.2))

  blocks : (bs : List Block) (s end : Locals) → each (IsBlock types) bs s end → (cs : List Block) × each (IsBlock more) cs s end
  blocks [] s end h = ([], h)
  blocks (b ∷ bs) s end (m, h, rest) = let c = block b s m h in let cs = blocks bs m end rest in (c.0 ∷ cs.0, (m, c.1, cs.1))

  entry_label : (k i j : ℕ) (s m : Locals) → i ≡ j → label i s m ⊎ unwritten_label k i s m → label j s m ⊎ unwritten_label k j s m
  entry_label k i j s m e h = subst (λ (x : ℕ). label x s m ⊎ unwritten_label k x s m) e h

  all_blocks : (k : ℕ) (bs : List Block) (s end : Locals) → AreBlocks types k bs s end → (cs : List Block) × AreBlocks more k cs s end
  all_blocks k [] s end h = absurd h
  all_blocks k (b ∷ bs) s end (x, (m, l, h), rest) =
      let c = body b m x h in
      let cs = blocks bs x end rest in
      (c.0 ∷ cs.0, (x, (m, entry_label k b.label c.0.label s m c.1 l, c.2), cs.1))

  function_of : (groups others : List (List ℕ)) (f : Function) (ts rest : List Sym) → IsFunction types groups f ts rest → (g : Function) × IsFunction more others g ts rest
  function_of groups others f ts rest h =
      let bs = all_blocks h.numbers f.blocks (h.names, h.body) (f.names, syms.Mark marks.CloseCurly ∷ rest) h.blocks in (
        record f { coroutine = make_coroutine others h.attrs; blocks = bs.0 },
        record { written = h.written; attrs = h.attrs; body = h.body; head = h.head; coroutine = refl; names = h.names; numbers = h.numbers; params = h.params; blocks = bs.1 },
      )

  global_of : (g : GlobalItem) (ts rest : List Sym) → IsGlobal types g ts rest → (j : GlobalItem) × IsGlobal more j ts rest
  global_of g ts rest (a, name, (b, e, (c, attrs, (d, word, (x, ty, (y, init, (z, al, md))))))) =
      let n = aligned g.ty g.align y z al in
      (record g { align = n.0 }, (a, name, (b, e, (c, attrs, (d, word, (x, ty, (y, init, (z, n.1, md))))))))

  -- the items with these types and groups
  pub record Retyped (others : List (List ℕ)) (is : List Item) (ts rest : List Sym) : Type 0 where
    pub items : List Item
    pub are : each (IsItem more others) items ts rest
    pub types_same : types_of is ≡ types_of items
    pub groups_same : groups_of is ≡ groups_of items
    pub as_many : length is ≡ length items

  pub retyped : (groups others : List (List ℕ)) (is : List Item) (ts rest : List Sym) → each (IsItem types groups) is ts rest → Retyped others is ts rest
  retyped groups others [] ts rest h = record { items = []; are = h; types_same = refl; groups_same = refl; as_many = refl }
  retyped groups others (type_item t ∷ is) ts rest (m, h, k) =
      let r = retyped groups others is m rest k in
      record { items = type_item t ∷ r.items; are = (m, h, r.are); types_same = ap (λ (l : List TypeItem). t ∷ l) r.types_same; groups_same = r.groups_same; as_many = ap suc r.as_many }
  retyped groups others (global_item g ∷ is) ts rest (m, h, k) =
      let r = retyped groups others is m rest k in
      let j = global_of g ts m h in
      record { items = global_item j.0 ∷ r.items; are = (m, j.1, r.are); types_same = r.types_same; groups_same = r.groups_same; as_many = ap suc r.as_many }
  retyped groups others (declaration d ∷ is) ts rest (m, h, k) =
      let r = retyped groups others is m rest k in
      record { items = declaration d ∷ r.items; are = (m, h, r.are); types_same = r.types_same; groups_same = r.groups_same; as_many = ap suc r.as_many }
  retyped groups others (function f ∷ is) ts rest (m, h, k) =
      let r = retyped groups others is m rest k in
      let j = function_of groups others f ts m h in
      record { items = function j.0 ∷ r.items; are = (m, j.1, r.are); types_same = r.types_same; groups_same = r.groups_same; as_many = ap suc r.as_many }
  retyped groups others (group g ∷ is) ts rest (m, h, k) =
      let r = retyped groups others is m rest k in
      record { items = group g ∷ r.items; are = (m, h, r.are); types_same = r.types_same; groups_same = ap (λ (l : List (List ℕ)). g ∷ l) r.groups_same; as_many = ap suc r.as_many }
  retyped groups others (other ∷ is) ts rest (m, h, k) =
      let r = retyped groups others is m rest k in
      record { items = other ∷ r.items; are = (m, h, r.are); types_same = r.types_same; groups_same = r.groups_same; as_many = ap suc r.as_many }
