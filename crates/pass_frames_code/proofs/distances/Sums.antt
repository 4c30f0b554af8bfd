-- Instructions that sum a distance are done one after another, and what they give is the sum.
use Rattle.std.proofs.Common.{◌≡◌, ℕ, ◌+◌, ◌*◌, ◌%◌, ◌^◌, ◌<◌, ◌≤◌, Bool, true, false, List, [], ◌∷◌, length, refl, sym, ap, ◌∙◌, subst, arith, pos}
use Rattle.std.proofs.lemmas.Bool.{lt-ltb, ltb-true}
use Rattle.std.proofs.lemmas.Nat.{pow_pos}
use Rattle.std.proofs.Math.Nat.{mod-eq_of_lt, mod-lt}
use Rattle.std.specs.Prelude.{None, Option, Some, nat_lt, ◌&&◌, ◌==◌, if◌then◌else◌}
use Rattle.pass_proofs.specs.ir_base.declared.ops.BinOp.{BinOp}
use Rattle.pass_proofs.specs.ir_base.declared.ops.CastOp.{CastOp}
use Rattle.pass_proofs.specs.ir_base.declared.outcome.Word.{Word}
use Rattle.pass_proofs.proofs.ir_laws.facts.Lists.{set_here}
use Rattle.pass_proofs.proofs.ir_laws.facts.Truth.{and_first, and_second, equal_numbers}
use Rattle.pass_proofs.specs.ir_model.Ty.{Ty, array, int, named, ptr, structure, token}
use Rattle.pass_proofs.specs.ir_model.declared.instr.Instr.{Instr}
use Rattle.pass_proofs.specs.ir_model.declared.operand.Operand.{Operand}
use Rattle.pass_proofs.specs.pass_distances.Sums.{is_wide, on_number, sum_instrs, sum_next, sum_value, way_instrs, widened, widening}
use Rattle.pass_proofs.specs.pass_distances.declared.way.Way.{Way}
use Rattle.pass_proofs.specs.pass_intrinsics.Lowered.{no_flags}
use Rattle.pass_frames_code.specs.Distances.{AreWaysBelow, IsBelow, IsNumber, IsWayBelow, SetsFrom, SumsUp, added, summed}
use Rattle.pass_proofs.proofs.run_ints.Widths.{bits_of_below}
use Rattle.pass_proofs.proofs.run_ints.Wraps.{bits_of-signed}
use Rattle.pass_proofs.specs.run_ints.Numbers.{bits_of, cast, computed, signed_of}
use Rattle.pass_proofs.specs.run_ints.declared.num.Num.{Num}
use Rattle.pass_proofs.proofs.run_laws.access.Lines.{runs_append}
use Rattle.pass_proofs.proofs.run_laws.transfer.Sets.{set_elsewhere, set_length}
use Rattle.pass_proofs.specs.run_laws.access.Lines.{Runs}
use Rattle.pass_proofs.specs.run_memory.declared.pointer.Value.{Value}
use Rattle.pass_proofs.specs.run_step.Step.{Context, Work, cast_to, set_value, value_at}
use Rattle.pass_proofs.specs.run_step.Values.{arg_value, index_of, number_at, number_of_width, plus, times, value_in, value_of, value_or_poison}

-- ---- numbers of 64 bits

abbrev word : ℕ → Word
word n = record { width = 64; bits = n }

is_number : (n : ℕ) → n < 2 ^ 64 → number_of_width 64 (Value.Int (word n)) ≡ Num.Is (word n)
is_number n lt = ap (λ (b : Bool). if b then Num.Is (word n) else Num.Poison) (lt-ltb n (2 ^ 64) lt)

-- what an operation gives of two values
abbrev of_both : BinOp → Value → Value → Value
of_both op v u = value_of (computed op no_flags (number_of_width 64 v) (number_of_width 64 u))

both_numbers : (op : BinOp) (a b : ℕ) (v u : Value) → IsNumber (Some a) v → IsNumber (Some b) u
    → of_both op v u ≡ value_of (computed op no_flags (Num.Is (word a)) (Num.Is (word b)))
both_numbers op a b v u h k =
    (λ i. of_both op (h.0 i) (k.0 i))
    ∙ (λ i. value_of (computed op no_flags (is_number a h.1 i) (is_number b k.1 i)))

below : (n : ℕ) → n % 2 ^ 64 < 2 ^ 64
below n = mod-lt n (pow_pos 64)

sum_number : (d e : Option ℕ) (v u : Value) → IsNumber d v → IsNumber e u
    → IsNumber (plus d e) (of_both BinOp.Add v u)
sum_number None e v u h k = tt
sum_number (Some a) None v u h k = tt
sum_number (Some a) (Some b) v u h k = (both_numbers BinOp.Add a b v u h k, below (a + b))

product_number : (d : Option ℕ) (size : ℕ) (v u : Value) → IsNumber d v → IsNumber (Some size) u
    → IsNumber (times size d) (of_both BinOp.Mul v u)
product_number None size v u h k = tt
product_number (Some a) size v u h k =
    let turned : a * size ≡ size * a = grind arith in
    (both_numbers BinOp.Mul a size v u h k ∙ ap (λ (n : ℕ). Value.Int (word (n % 2 ^ 64))) turned, below (size * a))

-- a literal of 64 bits
pub literal_number : (n : ℕ) → n < 2 ^ 64 → IsNumber (Some n) (Value.Int (word (n % 2 ^ 64)))
literal_number n lt = (ap (λ (k : ℕ). Value.Int (word k)) (mod-eq_of_lt lt), lt)

-- ---- names that are set

module _ (w : Work) (n r : ℕ) (v : Value) where
  pub set_from : n ≤ r → SetsFrom n w (set_value w r v)
  set_from le = record {
    world = refl;
    others = λ u lt. set_elsewhere w.values r u v (λ e. absurd (omega arith));
    room = set_length w.values r v;
  }

  pub value_set : r < length w.values → value_in (set_value w r v).values r ≡ v
  value_set lt = ap value_or_poison (set_here w.values r (Some v) lt)

pub sets_none : (n : ℕ) (w : Work) → SetsFrom n w w
sets_none n w = record { world = refl; others = λ v lt. refl; room = refl }

pub sets_on : (n k : ℕ) (w x y : Work) → n ≤ k → SetsFrom n w x → SetsFrom k x y → SetsFrom n w y
sets_on n k w x y le a b = record {
  world = b.world ∙ a.world;
  others = λ v lt. b.others v (omega arith) ∙ a.others v lt;
  room = b.room ∙ a.room;
}

-- a value that no new name has stays
pub value_stays : (c : Context) (n : ℕ) (w x : Work) (ty : Ty) (o : Operand) → SetsFrom n w x → IsBelow n o
    → value_at c x ty o ≡ value_at c w ty o
value_stays c n w x ty (Operand.Local v) s lt = s.others v lt
value_stays c n w x ty (Operand.Global g) s lt = refl
value_stays c n w x ty (Operand.Number z) s lt = refl
value_stays c n w x ty Operand.True s lt = refl
value_stays c n w x ty Operand.False s lt = refl
value_stays c n w x ty Operand.Null s lt = refl
value_stays c n w x ty Operand.None s lt = refl
value_stays c n w x ty Operand.Poison s lt = refl

-- ---- an index as a number of 64 bits

-- instructions are done, and then the operand is the number
record IsNumbered (c : Context) (n : ℕ) (is : List Instr) (o : Operand) (d : Option ℕ) (w : Work) : Type 0 where
  work : Work
  runs : Runs c is w work
  sets : SetsFrom n w work
  number : IsNumber d (value_at c work (int 64) o)

word_number : (x : Word) (b : Bool) → ((x.width == 64) && nat_lt x.bits (2 ^ 64)) ≡ b
    → IsNumber (index_of (if b then Num.Is x else Num.Poison)) (Value.Int x)
word_number x true e =
    let width : x.width ≡ 64 = equal_numbers x.width 64 (and_first (x.width == 64) (nat_lt x.bits (2 ^ 64)) e) in
    let low : x.bits < 2 ^ 64 = ltb-true x.bits (2 ^ 64) (and_second (x.width == 64) (nat_lt x.bits (2 ^ 64)) e) in
    let same : bits_of 64 (signed_of x.width x.bits) ≡ x.bits =
    ap (λ (k : ℕ). bits_of 64 (signed_of k x.bits)) width ∙ bits_of-signed 64 x.bits low in
    ((λ i. Value.Int (record { width = width i; bits = sym same i })), bits_of_below 64 (signed_of x.width x.bits))
word_number x false e = tt

wide_number : (v : Value) → IsNumber (index_of (number_of_width 64 v)) v
wide_number Value.Poison = tt
wide_number (Value.Int x) = word_number x ((x.width == 64) && nat_lt x.bits (2 ^ 64)) refl
wide_number (Value.Ptr p) = tt

cast_number : (m : Num) → IsNumber (index_of m) (value_of (cast CastOp.Sext false m 64))
cast_number Num.Poison = tt
cast_number (Num.Is x) = (refl, bits_of_below 64 (signed_of x.width x.bits))

module _ (c : Context) (n : ℕ) (w : Work) (room : n < length w.values) (x : Operand) where
  abbrev Widened : (ty : Ty) (wide : Bool) → Type 0
  Widened ty wide =
      IsNumbered c n
      (if wide then [] else Instr.Cast n CastOp.Sext false (record { ty = ty; value = x }) (int 64) ∷ [])
      (if wide then x else Operand.Local n)
      (index_of (number_at ty (value_at c w ty x))) w

  as_it_is : (d : Option ℕ) → IsNumber d (value_at c w (int 64) x) → IsNumbered c n [] x d w
  as_it_is d h = record { work = w; runs = refl; sets = sets_none n w; number = h }

  widen_word : (k : ℕ) (b : Bool) → (k == 64) ≡ b → Widened (int k) b
  widen_word k true e =
      subst (λ (j : ℕ). Widened (int j) true) (sym (equal_numbers k 64 e))
      (as_it_is (index_of (number_of_width 64 (value_at c w (int 64) x))) (wide_number (value_at c w (int 64) x)))
  widen_word k false e =
      let m : Num = number_of_width k (value_at c w (int k) x) in
      record {
        work = set_value w n (cast_to CastOp.Sext false m (int 64));
        runs = (set_value w n (cast_to CastOp.Sext false m (int 64)), (refl, refl));
        sets = set_from w n n (cast_to CastOp.Sext false m (int 64)) (omega arith);
        number = subst (λ (v : Value). IsNumber (index_of m) v)
            (sym (value_set w n n (cast_to CastOp.Sext false m (int 64)) room)) (cast_number m);
      }

  widen : (ty : Ty) → Widened ty (is_wide ty)
  widen (int k) = widen_word k (k == 64) refl
  widen ptr = as_it_is None tt
  widen token = as_it_is None tt
  widen (array k t) = as_it_is None tt
  widen (structure ts) = as_it_is None tt
  widen (named g) = as_it_is None tt

-- ---- one index

module _ (c : Context) (n : ℕ) (x : Operand) (d : Option ℕ) (w : Work) (low : IsBelow n x)
    (room : n + 3 ≤ length w.values) (is : IsNumber d (value_at c w (int 64) x)) where
  abbrev One : Way → Type 0
  One way = IsNumbered c n (way_instrs n x way) (Operand.Local (n + 2)) (plus d (added c.code w.values way)) w

  one_way : (way : Way) → IsWayBelow n way → One way
  one_way (Way.Bytes bytes) small =
      let v : Value =
      of_both BinOp.Add (value_at c w (int 64) x) (value_at c w (int 64) (Operand.Number (pos bytes))) in
      record {
        work = set_value w (n + 2) v;
        runs = (set_value w (n + 2) v, (refl, refl));
        sets = set_from w n (n + 2) v (omega arith);
        number =
            subst (λ (u : Value). IsNumber (plus d (Some bytes)) u) (sym (value_set w n (n + 2) v (omega arith)))
            (sum_number d (Some bytes) (value_at c w (int 64) x) (value_at c w (int 64) (Operand.Number (pos bytes)))
            is (literal_number bytes small));
      }
  one_way (Way.Elements a size) small =
      let i : Option ℕ = index_of (number_at a.ty (arg_value c.code w.values a)) in
      let first : IsNumbered c n (widening n a) (widened n a) i w = widen c n w (omega arith) a.value a.ty in
      let y : Work = first.work in
      let v : Value =
      of_both BinOp.Mul (value_at c y (int 64) (widened n a))
      (value_at c y (int 64) (Operand.Number (pos size))) in
      let z : Work = set_value y (n + 1) v in
      let by_mul : SetsFrom n y z = set_from y n (n + 1) v (omega arith) in
      let so_far : SetsFrom n w z = sets_on n n w y z (omega arith) first.sets by_mul in
      let u : Value = of_both BinOp.Add (value_at c z (int 64) x) (value_at c z (int 64) (Operand.Local (n + 1))) in
      let end : Work = set_value z (n + 2) u in
      let long : length y.values ≡ length w.values = first.sets.room in
      let longer : length z.values ≡ length w.values = so_far.room in
      let factor : IsNumber (times size i) v =
      product_number i size (value_at c y (int 64) (widened n a))
      (value_at c y (int 64) (Operand.Number (pos size))) first.number (literal_number size small.1) in
      record {
        work = end;
        runs = runs_append c (widening n a)
            (on_number (n + 1) BinOp.Mul (widened n a) (Operand.Number (pos size))
            ∷ on_number (n + 2) BinOp.Add x (Operand.Local (n + 1)) ∷ []) w y end first.runs
            (z, (refl, (end, (refl, refl))));
        sets = sets_on n n w z end (omega arith) so_far (set_from z n (n + 2) u (omega arith));
        number =
            subst (λ (t : Value). IsNumber (plus d (times size i)) t) (sym (value_set z n (n + 2) u (omega arith)))
            (sum_number d (times size i) (value_at c z (int 64) x) (value_at c z (int 64) (Operand.Local (n + 1)))
            (subst (λ (t : Value). IsNumber d t) (sym (value_stays c n w z (int 64) x so_far low)) is)
            (subst (λ (t : Value). IsNumber (times size i) t) (sym (value_set y n (n + 1) v (omega arith))) factor));
      }

-- ---- all of them

pub more_below : (n k : ℕ) (x : Operand) → n ≤ k → IsBelow n x → IsBelow k x
more_below n k (Operand.Local v) le lt = omega arith
more_below n k (Operand.Global g) le lt = tt
more_below n k (Operand.Number z) le lt = tt
more_below n k Operand.True le lt = tt
more_below n k Operand.False le lt = tt
more_below n k Operand.Null le lt = tt
more_below n k Operand.None le lt = tt
more_below n k Operand.Poison le lt = tt

pub ways_below : (n k : ℕ) (ws : List Way) → n ≤ k → AreWaysBelow n ws → AreWaysBelow k ws
ways_below n k [] le h = tt
ways_below n k (Way.Bytes bytes ∷ ws) le h = (h.0, ways_below n k ws le h.1)
ways_below n k (Way.Elements a size ∷ ws) le h = ((more_below n k a.value le h.0.0, h.0.1), ways_below n k ws le h.1)

-- what indices add stays where none of their names is set
pub summed_same : (c : Context) (n : ℕ) (w x : Work) (d : Option ℕ) (ws : List Way) → SetsFrom n w x → AreWaysBelow n ws
    → summed c.code x.values d ws ≡ summed c.code w.values d ws
summed_same c n w x d [] s h = refl
summed_same c n w x d (Way.Bytes bytes ∷ ws) s h = summed_same c n w x (plus d (Some bytes)) ws s h.1
summed_same c n w x d (Way.Elements a size ∷ ws) s h =
    ap (λ (v : Value). summed c.code x.values (plus d (times size (index_of (number_at a.ty v)))) ws)
    (value_stays c n w x a.ty a.value s h.0.0)
    ∙ summed_same c n w x (plus d (added c.code w.values (Way.Elements a size))) ws s h.1

pub next_rises : (n : ℕ) (ws : List Way) → n ≤ sum_next n ws
next_rises n [] = omega arith
next_rises n (w ∷ ws) = let more : n + 3 ≤ sum_next (n + 3) ws = next_rises (n + 3) ws in omega (arith, more)

pub sums_up : (c : Context) (n : ℕ) (x : Operand) (d : Option ℕ) (ws : List Way) (w : Work) → IsBelow n x
    → AreWaysBelow n ws → sum_next n ws ≤ length w.values → IsNumber d (value_at c w (int 64) x) → SumsUp c n x d ws w
sums_up c n x d [] w low h room is = record { work = w; runs = refl; sets = sets_none n w; sum = is }
sums_up c n x d (way ∷ ws) w low h room is =
    let rises : n + 3 ≤ sum_next (n + 3) ws = next_rises (n + 3) ws in
    let one = one_way c n x d w low (omega (arith, rises, room)) is way h.0 in
    let long : length one.work.values ≡ length w.values = one.sets.room in
    let rest : SumsUp c (n + 3) (Operand.Local (n + 2)) (plus d (added c.code w.values way)) ws one.work =
    sums_up c (n + 3) (Operand.Local (n + 2)) (plus d (added c.code w.values way)) ws one.work (omega arith)
    (ways_below n (n + 3) ws (omega arith) h.1) (omega (arith, long, room)) one.number in
    record {
      work = rest.work;
      runs = runs_append c (way_instrs n x way) (sum_instrs (n + 3) (Operand.Local (n + 2)) ws) w one.work rest.work
          one.runs rest.runs;
      sets = sets_on n (n + 3) w one.work rest.work (omega arith) one.sets rest.sets;
      sum = subst (λ (e : Option ℕ). IsNumber e
          (value_at c rest.work (int 64) (sum_value (n + 3) (Operand.Local (n + 2)) ws)))
          (summed_same c n w one.work (plus d (added c.code w.values way)) ws one.sets h.1) rest.sum;
    }
