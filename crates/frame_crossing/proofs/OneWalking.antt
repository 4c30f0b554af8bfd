-- The one walk finds for each value what the words of its chunk say of it.
use Rattle.std.proofs.Common.{◌≡◌, ◌≢◌, ℕ, zero, suc, ◌+◌, ◌/◌, ◌%◌, ◌<◌, ◌≤◌, ◌⊎◌, Bool, true, false, List, [], ◌∷◌, ◌++◌, filter, replicate, Some, None, Option, refl, sym, ap, ◌∙◌, ⊎_elim, inl, inr, arith, eq-eqb}
use Rattle.std.specs.Prelude.{bit_or, not, slice_get, slice_set, ◌==◌, ◌&&◌, ◌||◌, if◌then◌else◌}
use Rattle.std.specs.Int.{bit_at}
use Rattle.std.proofs.Math.Bool.{or_assoc}
use Rattle.std.proofs.lemmas.Bool.{cases_eq, eqb-true}
use Rattle.std.proofs.lemmas.Nat.Bits.{bit_at-zero}
use Rattle.std.proofs.lemmas.Option.{slice_get_within}
use Rattle.flow_bits.specs.Bits.{HasBit}
use Rattle.rule_uses.specs.Questions.{has_bit, instrs_word, phis_word, result_word, value_word}
use Rattle.rule_uses.specs.Uses.{local_of}
use Rattle.flow_solver.proofs.Lists.{place_of, set_here, set_other}
use Rattle.flow_solver.specs.Paths.{IsListed}
use Rattle.ir_parts.specs.Contents.{ending_operands, instr_operands, result_of}
use Rattle.ir_model.specs.declared.instr.Instr.{Instr}
use Rattle.ir_model.specs.declared.instr.Phi.{Phi}
use Rattle.ir_model.specs.declared.instr.Terminator.{Terminator}
use Rattle.ir_model.specs.declared.module.Block.{Block}
use Rattle.ir_model.specs.declared.operand.Operand.{Operand}
use Rattle.frame_crossing.proofs.Bits.{IsOwn, in_without, left_bit, one_bit, own_bit, right_bit, still_without}
use Rattle.frame_crossing.specs.OneWalk.{block_far, block_made, blocks_far, far_table, instrs_far, instrs_made, is_in, is_made, is_mark, is_on, phis_made, used_unless, uses_far, with_result, with_use, with_uses}
use Rattle.frame_crossing.specs.Words.{AreNumbered, block_open, far_mask, is_far, is_far_at, open_word, operands_word, opens_mask, uses_mask, without}
use Rattle.frame_crossing.specs.declared.edge_use.EdgeUse.{EdgeUse}

-- ---- operands in a row

pub with_uses_append : (made : List ℕ) (mark : ℕ) (far : List Bool) (xs ys : List Operand) → with_uses made mark far (xs ++ ys) ≡ with_uses made mark (with_uses made mark far xs) ys
with_uses_append made mark far [] ys = refl
with_uses_append made mark far (x ∷ xs) ys = with_uses_append made mark (with_use made mark far (local_of x)) xs ys

-- ---- truth values

both_ways : (a b : Bool) → (a ≡ true → b ≡ true) → (b ≡ true → a ≡ true) → a ≡ b
both_ways true true f g = refl
both_ways true false f g = sym (f refl)
both_ways false true f g = g refl
both_ways false false f g = refl

or_cases : (a b : Bool) → (a || b) ≡ true → (a ≡ true) ⊎ (b ≡ true)
or_cases true b e = inl refl
or_cases false b e = inr e

or_left : (a b : Bool) → a ≡ true → (a || b) ≡ true
or_left true b e = refl
or_left false b e = absurd (cc)

or_right : (a b : Bool) → b ≡ true → (a || b) ≡ true
or_right true b e = refl
or_right false b e = e

or_false : (a : Bool) → (a || false) ≡ a
or_false true = refl
or_false false = refl

or_true : (a : Bool) → (a || true) ≡ true
or_true true = refl
or_true false = refl

and_parts : (a b : Bool) → (a && not b) ≡ true → (a ≡ true) × (b ≡ true → ⊥)
and_parts true true e = absurd (cc)
and_parts true false e = (refl, λ t. absurd (cc))
and_parts false b e = absurd (cc)

and_whole : (a b : Bool) → a ≡ true → (b ≡ true → ⊥) → (a && not b) ≡ true
and_whole true true ta nb = absurd (nb refl)
and_whole true false ta nb = refl
and_whole false b ta nb = absurd (cc)

-- ---- bits

has_it : (w c : ℕ) → HasBit w c → has_bit w c ≡ true
has_it w c h = eq-eqb (bit_at w c) 1 h

of_has : (w c : ℕ) → has_bit w c ≡ true → HasBit w c
of_has w c e = eqb-true (bit_at w c) 1 e

none_has : (c : ℕ) → has_bit 0 c ≡ false
none_has c = ap (λ (n : ℕ). n == 1) (bit_at-zero c)

or_has : (a b c : ℕ) → has_bit (bit_or a b) c ≡ (has_bit a c || has_bit b c)
or_has a b c = both_ways (has_bit (bit_or a b) c) (has_bit a c || has_bit b c)
    (λ e. ⊎_elim (λ l. or_left (has_bit a c) (has_bit b c) (has_it a c l)) (λ r. or_right (has_bit a c) (has_bit b c) (has_it b c r)) (one_bit a b c (of_has (bit_or a b) c e)))
    (λ e. has_it (bit_or a b) c (⊎_elim (λ l. left_bit a b c (of_has a c l)) (λ r. right_bit a b c (of_has b c r)) (or_cases (has_bit a c) (has_bit b c) e)))

without_has : (a b c : ℕ) → c < 64 → has_bit (without a b) c ≡ (has_bit a c && not (has_bit b c))
without_has a b c lt = both_ways (has_bit (without a b) c) (has_bit a c && not (has_bit b c))
    (λ e. let two = in_without a b c lt (of_has (without a b) c e) in and_whole (has_bit a c) (has_bit b c) (has_it a c two.0) (λ t. two.1 (of_has b c t)))
    (λ e. let two = and_parts (has_bit a c) (has_bit b c) e in has_it (without a b) c (still_without a b c lt (of_has a c two.0) (λ h. two.1 (has_it b c h))))

-- ---- one value

module _ (numbers : List (Option ℕ)) (chunk v c : ℕ) (o : IsOwn numbers chunk v c) where
  own_has : (u : ℕ) → u ≡ v → has_bit (value_word numbers chunk u) c ≡ true
  own_has u e = ap (λ (n : ℕ). has_bit (value_word numbers chunk n) c) e ∙ has_it (value_word numbers chunk v) c o.own

  other_has : (u : ℕ) → u ≢ v → has_bit (value_word numbers chunk u) c ≡ false
  other_has u ne = on (has_bit (value_word numbers chunk u) c) refl
    where
      on : (b : Bool) → has_bit (value_word numbers chunk u) c ≡ b → b ≡ false
      on true e = absurd (ne (o.only u (of_has (value_word numbers chunk u) c e)))
      on false e = refl

  with_own : (word u : ℕ) → u ≡ v → has_bit (bit_or word (value_word numbers chunk u)) c ≡ true
  with_own word u e = or_has word (value_word numbers chunk u) c ∙ ap (λ (b : Bool). has_bit word c || b) (own_has u e) ∙ or_true (has_bit word c)

  with_other : (word u : ℕ) → u ≢ v → has_bit (bit_or word (value_word numbers chunk u)) c ≡ has_bit word c
  with_other word u ne = or_has word (value_word numbers chunk u) c ∙ ap (λ (b : Bool). has_bit word c || b) (other_has u ne) ∙ or_false (has_bit word c)

  -- ---- where it is made

  -- the table has the mark exactly where the word has the bit, and no later mark
  record IsMadeBy (mark : ℕ) (made : List ℕ) (word : ℕ) : Type 0 where
    last : ℕ
    is_last : slice_get made v ≡ Some last
    not_later : last ≤ mark
    tells : (last == mark) ≡ has_bit word c

  made_tells : (mark : ℕ) (made : List ℕ) (word : ℕ) → IsMadeBy mark made word → is_made made mark v ≡ has_bit word c
  made_tells mark made word m = ap (is_mark mark) m.is_last ∙ m.tells

  set_made : (mark : ℕ) (made : List ℕ) (word u : ℕ) → IsMadeBy mark made word → IsMadeBy mark (slice_set made u mark) (bit_or word (value_word numbers chunk u))
  set_made mark made word u m = ⊎_elim same other (cases_eq u v)
    where
      same : u ≡ v → IsMadeBy mark (slice_set made u mark) (bit_or word (value_word numbers chunk u))
      same e = record {
        last = mark;
        is_last = ap (λ (n : ℕ). slice_get (slice_set made n mark) v) e ∙ set_here made v mark (slice_get_within made v m.last m.is_last);
        not_later = omega arith;
        tells = eq-eqb mark mark refl ∙ sym (with_own word u e);
      }

      other : u ≢ v → IsMadeBy mark (slice_set made u mark) (bit_or word (value_word numbers chunk u))
      other ne = record {
        last = m.last;
        is_last = set_other made u v mark (λ e. ne (sym e)) ∙ m.is_last;
        not_later = m.not_later;
        tells = m.tells ∙ sym (with_other word u ne);
      }

  result_made : (mark : ℕ) (made : List ℕ) (word : ℕ) (r : Option ℕ) → IsMadeBy mark made word → IsMadeBy mark (with_result mark made r) (result_word numbers chunk word r)
  result_made mark made word None m = m
  result_made mark made word (Some u) m = set_made mark made word u m

  made_by_phis : (mark : ℕ) (made : List ℕ) (word : ℕ) (ps : List Phi) → IsMadeBy mark made word → IsMadeBy mark (phis_made mark made ps) (phis_word numbers chunk word ps)
  made_by_phis mark made word [] m = m
  made_by_phis mark made word (p ∷ ps) m = made_by_phis mark (slice_set made p.result mark) (bit_or word (value_word numbers chunk p.result)) ps (set_made mark made word p.result m)

  made_by_instrs : (mark : ℕ) (made : List ℕ) (word : ℕ) (is : List Instr) → IsMadeBy mark made word → IsMadeBy mark (instrs_made mark made is) (instrs_word numbers chunk word is)
  made_by_instrs mark made word [] m = m
  made_by_instrs mark made word (i ∷ is) m = made_by_instrs mark (with_result mark made (result_of i)) (result_word numbers chunk word (result_of i)) is (result_made mark made word (result_of i) m)

  -- ---- where it is used

  -- a use of the value itself
  own_use : (far : List Bool) (f w m b : Bool) → b ≡ m → slice_get far v ≡ Some (f || (w && not m)) → slice_get (used_unless b far v) v ≡ Some (f || not m)
  own_use far f w true true e is = is ∙ ap (λ (x : Bool). Some (f || x)) (no_more w)
    where
      no_more : (a : Bool) → (a && false) ≡ false
      no_more true = refl
      no_more false = refl
  own_use far f w true false e is = absurd (cc)
  own_use far f w false true e is = absurd (cc)
  own_use far f w false false e is = set_here far v true (slice_get_within far v (f || (w && true)) is) ∙ ap (λ (x : Bool). Some x) (sym (or_true f))

  other_use : (far : List Bool) (u : ℕ) (b : Bool) → u ≢ v → slice_get (used_unless b far u) v ≡ slice_get far v
  other_use far u true ne = refl
  other_use far u false ne = set_other far u v true (λ e. ne (sym e))

  one_use : (made : List ℕ) (mark : ℕ) (far : List Bool) (f m : Bool) (word : ℕ) (r : Option ℕ) → is_made made mark v ≡ m → slice_get far v ≡ Some (f || (has_bit word c && not m)) →
      slice_get (with_use made mark far r) v ≡ Some (f || (has_bit (result_word numbers chunk word r) c && not m))
  one_use made mark far f m word None known is = is
  one_use made mark far f m word (Some u) known is = ⊎_elim same other (cases_eq u v)
    where
      same : u ≡ v → slice_get (with_use made mark far (Some u)) v ≡ Some (f || (has_bit (bit_or word (value_word numbers chunk u)) c && not m))
      same e =
          ap (λ (n : ℕ). slice_get (with_use made mark far (Some n)) v) e
          ∙ own_use far f (has_bit word c) m (is_made made mark v) known is
          ∙ ap (λ (b : Bool). Some (f || (b && not m))) (sym (with_own word u e))

      other : u ≢ v → slice_get (with_use made mark far (Some u)) v ≡ Some (f || (has_bit (bit_or word (value_word numbers chunk u)) c && not m))
      other ne = other_use far u (is_made made mark u) ne ∙ is ∙ ap (λ (b : Bool). Some (f || (b && not m))) (sym (with_other word u ne))

  more_uses : (made : List ℕ) (mark : ℕ) (far : List Bool) (f m : Bool) (word : ℕ) (xs : List Operand) → is_made made mark v ≡ m → slice_get far v ≡ Some (f || (has_bit word c && not m)) →
      slice_get (with_uses made mark far xs) v ≡ Some (f || (has_bit (operands_word numbers chunk word xs) c && not m))
  more_uses made mark far f m word [] known is = is
  more_uses made mark far f m word (x ∷ xs) known is =
      more_uses made mark (with_use made mark far (local_of x)) f m (result_word numbers chunk word (local_of x)) xs known (one_use made mark far f m word (local_of x) known is)

  -- what these operands use that isn't made before, with what was found
  found_uses : (mark : ℕ) (made : List ℕ) (far : List Bool) (f : Bool) (word found : ℕ) (xs : List Operand) → IsMadeBy mark made word → slice_get far v ≡ Some (f || has_bit found c) →
      slice_get (with_uses made mark far xs) v ≡ Some (f || has_bit (bit_or found (without (operands_word numbers chunk 0 xs) word)) c)
  found_uses mark made far f word found xs m is =
      more_uses made mark far (f || has_bit found c) (has_bit word c) 0 xs (made_tells mark made word m)
      (is ∙ ap (λ (b : Bool). Some b) (sym (or_false (f || has_bit found c))) ∙ ap (λ (b : Bool). Some (f || has_bit found c || (b && not (has_bit word c)))) (sym (none_has c)))
      ∙ ap (λ (b : Bool). Some b) (
      or_assoc f (has_bit found c) (has_bit (operands_word numbers chunk 0 xs) c && not (has_bit word c))
      ∙ ap (λ (b : Bool). f || (has_bit found c || b)) (sym (without_has (operands_word numbers chunk 0 xs) word c o.small))
      ∙ ap (λ (b : Bool). f || b) (sym (or_has found (without (operands_word numbers chunk 0 xs) word) c))
      )

  open_far : (mark : ℕ) (made : List ℕ) (far : List Bool) (f : Bool) (word found : ℕ) (is : List Instr) (t : Terminator) → IsMadeBy mark made word → slice_get far v ≡ Some (f || has_bit found c) →
      slice_get (instrs_far mark made far is t) v ≡ Some (f || has_bit (open_word numbers chunk word found is t) c)
  open_far mark made far f word found [] t m e = found_uses mark made far f word found (ending_operands t) m e
  open_far mark made far f word found (i ∷ is) t m e =
      open_far mark (with_result mark made (result_of i)) (with_uses made mark far (instr_operands i)) f (result_word numbers chunk word (result_of i)) (bit_or found (without (operands_word numbers chunk 0 (instr_operands i)) word)) is t
      (result_made mark made word (result_of i) m) (found_uses mark made far f word found (instr_operands i) m e)

  -- ---- blocks and phis

  -- at the front of a block nothing has its mark
  record IsFresh (mark : ℕ) (made : List ℕ) : Type 0 where
    last : ℕ
    is_last : slice_get made v ≡ Some last
    before : last < mark

  at_front : (mark : ℕ) (made : List ℕ) → IsFresh mark made → IsMadeBy mark made 0
  at_front mark made h = record { last = h.last; is_last = h.is_last; not_later = let lt = h.before in omega (arith, lt); tells = ⊎_elim same other (cases_eq h.last mark) }
    where
      same : h.last ≡ mark → (h.last == mark) ≡ has_bit 0 c
      same e = let lt = h.before in absurd (omega (arith, lt, e))

      other : h.last ≢ mark → (h.last == mark) ≡ has_bit 0 c
      other ne = on (h.last == mark) refl ∙ sym (none_has c)
        where
          on : (b : Bool) → (h.last == mark) ≡ b → b ≡ false
          on true e = absurd (ne (eqb-true h.last mark e))
          on false e = refl

  behind_block : (mark : ℕ) (made : List ℕ) (word : ℕ) → IsMadeBy mark made word → IsFresh (mark + 1) made
  behind_block mark made word m = record { last = m.last; is_last = m.is_last; before = let le = m.not_later in omega (arith, le) }

  blocks_tell : (mark : ℕ) (made : List ℕ) (far : List Bool) (word : ℕ) (bs : List Block) → IsFresh mark made → slice_get far v ≡ Some (has_bit word c) → slice_get (blocks_far mark made far bs) v ≡ Some (has_bit (opens_mask numbers chunk word bs) c)
  blocks_tell mark made far word [] h e = e
  blocks_tell mark made far word (b ∷ bs) h e = blocks_tell (mark + 1) (block_made mark made b) (block_far mark made far b) (bit_or word (block_open numbers chunk b)) bs
      (behind_block mark (block_made mark made b) (instrs_word numbers chunk (phis_word numbers chunk 0 b.phis) b.instrs) (made_by_instrs mark (phis_made mark made b.phis) (phis_word numbers chunk 0 b.phis) b.instrs phis))
      (open_far mark (phis_made mark made b.phis) far (has_bit word c) (phis_word numbers chunk 0 b.phis) 0 b.instrs b.term phis (e ∙ ap (λ (x : Bool). Some x) (sym (or_false (has_bit word c)) ∙ ap (λ (x : Bool). has_bit word c || x) (sym (none_has c))))
      ∙ ap (λ (x : Bool). Some x) (sym (or_has word (block_open numbers chunk b) c)))
    where
      phis : IsMadeBy mark (phis_made mark made b.phis) (phis_word numbers chunk 0 b.phis)
      phis = made_by_phis mark made 0 b.phis (at_front mark made h)

  uses_tell : (far : List Bool) (word : ℕ) (us : List EdgeUse) → slice_get far v ≡ Some (has_bit word c) → slice_get (uses_far far us) v ≡ Some (has_bit (uses_mask numbers chunk word us) c)
  uses_tell far word [] e = e
  uses_tell far word (u ∷ us) e = uses_tell (slice_set far u.value true) (bit_or word (value_word numbers chunk u.value)) us (⊎_elim same other (cases_eq u.value v))
    where
      same : u.value ≡ v → slice_get (slice_set far u.value true) v ≡ Some (has_bit (bit_or word (value_word numbers chunk u.value)) c)
      same is = ap (λ (n : ℕ). slice_get (slice_set far n true) v) is ∙ set_here far v true (slice_get_within far v (has_bit word c) e) ∙ ap (λ (x : Bool). Some x) (sym (with_own word u.value is))

      other : u.value ≢ v → slice_get (slice_set far u.value true) v ≡ Some (has_bit (bit_or word (value_word numbers chunk u.value)) c)
      other ne = set_other far u.value v true (λ is. ne (sym is)) ∙ e ∙ ap (λ (x : Bool). Some x) (sym (with_other word u.value ne))

  get_same : {X : Type 0} (n i : ℕ) (x : X) → i < n → slice_get (replicate n x) i ≡ Some x
  get_same zero i x lt = absurd (omega arith)
  get_same (suc n) zero x lt = refl
  get_same (suc n) (suc i) x lt = get_same n i x (omega arith)

  table_tells : (names : ℕ) (blocks : List Block) (uses : List EdgeUse) → v < names → is_in (far_table names blocks uses) v ≡ has_bit (far_mask numbers chunk blocks uses) c
  table_tells names blocks uses lt = ap is_on (uses_tell (blocks_far 1 (replicate names 0) (replicate names false) blocks) (opens_mask numbers chunk 0 blocks) uses
      (blocks_tell 1 (replicate names 0) (replicate names false) 0 blocks
      (record { last = 0; is_last = get_same names v 0 lt; before = omega arith })
      (get_same names v false lt ∙ ap (λ (x : Bool). Some x) (sym (none_has c)))))

-- ---- all values

value_tells : (names : ℕ) (numbers : List (Option ℕ)) (values : List ℕ) (blocks : List Block) (uses : List EdgeUse) → AreNumbered names numbers values → (v k : ℕ) → slice_get values k ≡ Some v → is_in (far_table names blocks uses) v ≡ is_far numbers blocks uses v
value_tells names numbers values blocks uses n v k at =
    let numbered = n.numbered v k at in
    let count = n.numbering.numbers_length in
    let lt = slice_get_within numbers v (Some k) numbered in
    table_tells numbers (k / 64) v (k % 64) (own_bit names numbers values n.numbering (k / 64) v k numbered refl) names blocks uses (omega (arith, lt, count))
    ∙ ap (is_far_at numbers blocks uses) (sym numbered)

same_filter : (p q : ℕ → Bool) (vs : List ℕ) → ((v : ℕ) → IsListed v vs → p v ≡ q v) → filter p vs ≡ filter q vs
same_filter p q [] same = refl
same_filter p q (v ∷ vs) same =
    ap (λ (b : Bool). if b then v ∷ filter p vs else filter p vs) (same v (inl refl))
    ∙ ap (λ (l : List ℕ). if q v then v ∷ l else l) (same_filter p q vs (λ u h. same u (inr h)))

-- the values that the table has are those that the words of their chunks have
pub table_far : (names : ℕ) (numbers : List (Option ℕ)) (values xs far : List ℕ) (table : List Bool) (blocks : List Block) (uses : List EdgeUse) → AreNumbered names numbers values → xs ≡ values → table ≡ far_table names blocks uses → far ≡ filter (is_in table) xs → far ≡ filter (is_far numbers blocks uses) values
table_far names numbers values xs far table blocks uses n xs_are table_is is =
    is
    ∙ ap (filter (is_in table)) xs_are
    ∙ ap (λ (t : List Bool). filter (is_in t) values) table_is
    ∙ same_filter (is_in (far_table names blocks uses)) (is_far numbers blocks uses) values (λ v h. let found : (k : ℕ) × (slice_get values k ≡ Some v) = place_of values v h in value_tells names numbers values blocks uses n v found.0 found.1)
