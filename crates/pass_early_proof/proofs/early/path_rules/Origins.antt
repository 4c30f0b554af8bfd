-- What each instruction of a function whose saves are written out comes from.
use Rattle.std.proofs.Common.{◌≡◌, ℕ, zero, suc, ◌+◌, ◌≤◌, Bool, true, false, List, [], ◌∷◌, ◌++◌, length, refl, sym, ap, ◌∙◌, subst, arith}
use Rattle.std.specs.Prelude.{Some, None, Option, option_map, slice_get, if◌then◌else◌}
use Rattle.pass_early.specs.Early.{save_call, saved}
use Rattle.ir_model.specs.declared.instr.Instr.{Instr}
use Rattle.ir_model.specs.declared.module.Block.{Block}
use Rattle.ir_model.specs.declared.module.Function.{Function}
use Rattle.rule_laws.specs.ir_paths.Windows.{instr_at, instr_in}
use Rattle.rule_laws.specs.ir_paths.declared.point.Point.{Point}
use Rattle.pass_early_proof.proofs.early.saves.Blocks.{get_block}
use Rattle.pass_early_proof.specs.early.saves.SavesWritten.{behind_save, behind_saves, is_bare, saved_block, saved_function, with_save, with_saves}
use Rattle.pass_early_proof.specs.early.saves.Spots.{back_of, front_of, number_of_block, own_saves, place_in}
use Rattle.rule_laws.specs.ir_laws.facts.expanded.Spots.{instrs_in}

-- an instruction of a block comes from one that stays, from a suspend that gets a save, or is that save
pub data ComesFrom (c : Bool) (least n : ℕ) (is : List Instr) (j : ℕ) (y : Instr) : Type 0 where
  Stays : (k : ℕ) → slice_get is k ≡ Some y → is_bare c y ≡ false → j ≡ place_in c k n is → ComesFrom c least n is j y
  Suspends : (k name : ℕ) (i : Instr) → slice_get is k ≡ Some i → is_bare c i ≡ true → least ≤ name → j ≡ suc (place_in c k n is) → y ≡ saved name i → ComesFrom c least n is j y
  Saves : (k name : ℕ) (i : Instr) → slice_get is k ≡ Some i → is_bare c i ≡ true → least ≤ name → j ≡ place_in c k n is → y ≡ save_call name → ComesFrom c least n is j y

module _ (c : Bool) (least : ℕ) where
  group_size : (n : ℕ) (i : Instr) (b : Bool) → is_bare c i ≡ b → with_save c n i ≡ (if b then save_call n ∷ saved n i ∷ [] else i ∷ [])
  group_size n i b e = ap (λ (t : Bool). if t then save_call n ∷ saved n i ∷ [] else i ∷ []) e

  later : (n : ℕ) (i : Instr) (is : List Instr) (j : ℕ) (y : Instr) → ComesFrom c least (behind_save c n i) is j y → ComesFrom c least n (i ∷ is) (length (with_save c n i) + j) y
  later n i is j y (Stays k e b at) = Stays (suc k) e b (ap (λ (m : ℕ). length (with_save c n i) + m) at)
  later n i is j y (Suspends k name x e b le at same) = Suspends (suc k) name x e b le (let next : length (with_save c n i) + suc (place_in c k (behind_save c n i) is) ≡ suc (length (with_save c n i) + place_in c k (behind_save c n i) is) = omega arith in ap (λ (m : ℕ). length (with_save c n i) + m) at ∙ next) same
  later n i is j y (Saves k name x e b le at same) = Saves (suc k) name x e b le (ap (λ (m : ℕ). length (with_save c n i) + m) at) same

  more : (n : ℕ) (i : Instr) → least ≤ n → least ≤ behind_save c n i
  more n i le = on (is_bare c i)
    where
      on : (b : Bool) → least ≤ (if b then n + 1 else n)
      on true = omega arith
      on false = le

  pub comes_from : (n : ℕ) (is : List Instr) (j : ℕ) (y : Instr) → least ≤ n → slice_get (with_saves c n is) j ≡ Some y → ComesFrom c least n is j y
  comes_from n [] j y le e = absurd (cc)
  comes_from n (i ∷ is) j y le e = on (is_bare c i) refl j e (λ m d. comes_from (behind_save c n i) is m y (more n i le) d)
    where
      on : (b : Bool) → is_bare c i ≡ b → (j : ℕ) → slice_get (with_save c n i ++ with_saves c (behind_save c n i) is) j ≡ Some y → ((m : ℕ) → slice_get (with_saves c (behind_save c n i) is) m ≡ Some y → ComesFrom c least (behind_save c n i) is m y) → ComesFrom c least n (i ∷ is) j y
      on true b zero d rest =
          let here : Some (save_call n) ≡ Some y = sym (ap (λ (xs : List Instr). slice_get (xs ++ with_saves c (behind_save c n i) is) 0) (group_size n i true b)) ∙ d in
          let same : y ≡ save_call n = cc in
          Saves 0 n i refl b le refl same
      on true b (suc zero) d rest =
          let here : Some (saved n i) ≡ Some y = sym (ap (λ (xs : List Instr). slice_get (xs ++ with_saves c (behind_save c n i) is) 1) (group_size n i true b)) ∙ d in
          let same : y ≡ saved n i = cc in
          Suspends 0 n i refl b le refl same
      on true b (suc (suc m)) d rest =
          let there : slice_get (with_saves c (behind_save c n i) is) m ≡ Some y = sym (ap (λ (xs : List Instr). slice_get (xs ++ with_saves c (behind_save c n i) is) (suc (suc m))) (group_size n i true b)) ∙ d in
          let len : length (with_save c n i) ≡ 2 = ap length (group_size n i true b) in
          let at : length (with_save c n i) + m ≡ suc (suc m) = omega (arith, len) in
          subst (λ (x : ℕ). ComesFrom c least n (i ∷ is) x y) at (later n i is m y (rest m there))
      on false b zero d rest =
          let here : Some i ≡ Some y = sym (ap (λ (xs : List Instr). slice_get (xs ++ with_saves c (behind_save c n i) is) 0) (group_size n i false b)) ∙ d in
          let same : i ≡ y = cc in
          Stays 0 here (ap (is_bare c) (sym same) ∙ b) refl
      on false b (suc m) d rest =
          let there : slice_get (with_saves c (behind_save c n i) is) m ≡ Some y = sym (ap (λ (xs : List Instr). slice_get (xs ++ with_saves c (behind_save c n i) is) (suc m)) (group_size n i false b)) ∙ d in
          let len : length (with_save c n i) ≡ 1 = ap length (group_size n i false b) in
          let at : length (with_save c n i) + m ≡ suc m = omega (arith, len) in
          subst (λ (x : ℕ). ComesFrom c least n (i ∷ is) x y) at (later n i is m y (rest m there))

  -- the names of the saves of a block come behind those of the function
  pub names_more : (k n : ℕ) (bs : List Block) → least ≤ n → least ≤ number_of_block c k n bs
  names_more zero n bs le = le
  names_more (suc k) n [] le = le
  names_more (suc k) n (b ∷ bs) le = names_more k (behind_saves c n b.instrs) bs (on n b.instrs le)
    where
      on : (n : ℕ) (is : List Instr) → least ≤ n → least ≤ behind_saves c n is
      on n [] le = le
      on n (i ∷ is) le = on (behind_save c n i) is (more n i le)

-- ---- the same by points

pub record IsSavedBlock (f : Function) (k : ℕ) (d : Block) : Type 0 where
  pub block : Block
  pub got : slice_get f.blocks k ≡ Some block
  pub is : d ≡ saved_block f.coroutine (number_of_block f.coroutine k (length f.names) f.blocks) block

module _ (f : Function) where
  abbrev g : Function
  g = saved_function f

  abbrev number : ℕ → ℕ
  number k = number_of_block f.coroutine k (length f.names) f.blocks

  pub block_from : (k : ℕ) (d : Block) → slice_get g.blocks k ≡ Some d → IsSavedBlock f k d
  block_from k d e = on (slice_get f.blocks k) refl (sym (get_block f.coroutine k (length f.names) f.blocks) ∙ e)
    where
      on : (o : Option Block) → slice_get f.blocks k ≡ o → option_map (saved_block f.coroutine (number k)) o ≡ Some d → IsSavedBlock f k d
      on None s h = absurd (cc)
      on (Some b) s h = let same : saved_block f.coroutine (number k) b ≡ d = cc in record { block = b; got = s; is = sym same }

  pub number_least : (k : ℕ) → length f.names ≤ number k
  number_least k = names_more f.coroutine (length f.names) k (length f.names) f.blocks (omega arith)

-- an instruction at a point comes from one of the function that stays, from a suspend that gets a save, or is that save
pub data HasOrigin (f : Function) (q : Point) (y : Instr) : Type 0 where
  Kept : (p : Point) → instr_at f p ≡ Some y → is_bare f.coroutine y ≡ false → q ≡ front_of f p → q ≡ back_of f p → HasOrigin f q y
  Suspended : (p : Point) (name : ℕ) (i : Instr) → instr_at f p ≡ Some i → is_bare f.coroutine i ≡ true → length f.names ≤ name → q ≡ back_of f p → y ≡ saved name i → HasOrigin f q y
  Written : (p : Point) (name : ℕ) (i : Instr) → instr_at f p ≡ Some i → is_bare f.coroutine i ≡ true → length f.names ≤ name → q ≡ front_of f p → y ≡ save_call name → HasOrigin f q y

module _ (f : Function) where
  own_at : (block k : ℕ) (b : Block) (i : Instr) (t : Bool) → slice_get f.blocks block ≡ Some b → slice_get b.instrs k ≡ Some i → is_bare f.coroutine i ≡ t → own_saves f.coroutine (slice_get (instrs_in (slice_get f.blocks block)) k) ≡ (if t then 1 else 0)
  own_at block k b i t e d s = ap (λ (o : Option Block). own_saves f.coroutine (slice_get (instrs_in o) k)) e ∙ ap (own_saves f.coroutine) d ∙ ap (λ (x : Bool). if x then 1 else 0) s

  place_at : (block k : ℕ) (b : Block) → slice_get f.blocks block ≡ Some b → place_in f.coroutine k (number_of_block f.coroutine block (length f.names) f.blocks) (instrs_in (slice_get f.blocks block)) ≡ place_in f.coroutine k (number_of_block f.coroutine block (length f.names) f.blocks) b.instrs
  place_at block k b e = ap (λ (o : Option Block). place_in f.coroutine k (number_of_block f.coroutine block (length f.names) f.blocks) (instrs_in o)) e

  pub origin_in : (block j : ℕ) (b : Block) (y : Instr) → slice_get f.blocks block ≡ Some b → ComesFrom f.coroutine (length f.names) (number_of_block f.coroutine block (length f.names) f.blocks) b.instrs j y → HasOrigin f (record { block = block; at = j }) y
  origin_in block j b y e (Stays k d s at) =
      let here = place_at block k b e in
      let own = own_at block k b y false e d s in
      let one : j ≡ (front_of f (record { block = block; at = k })).at = at ∙ sym here in
      let two : j ≡ (back_of f (record { block = block; at = k })).at = omega (arith, one, own) in
      Kept (record { block = block; at = k }) (ap (λ (o : Option Block). instr_in o k) e ∙ d) s (λ i. record { block = block; at = one i }) (λ i. record { block = block; at = two i })
  origin_in block j b y e (Suspends k name x d s le at same) =
      let here = place_at block k b e in
      let own = own_at block k b x true e d s in
      let two : j ≡ (back_of f (record { block = block; at = k })).at = omega (arith, at, here, own) in
      Suspended (record { block = block; at = k }) name x (ap (λ (o : Option Block). instr_in o k) e ∙ d) s le (λ i. record { block = block; at = two i }) same
  origin_in block j b y e (Saves k name x d s le at same) =
      let here = place_at block k b e in
      let one : j ≡ (front_of f (record { block = block; at = k })).at = at ∙ sym here in
      Written (record { block = block; at = k }) name x (ap (λ (o : Option Block). instr_in o k) e ∙ d) s le (λ i. record { block = block; at = one i }) same

  pub origin : (q : Point) (y : Instr) → instr_at (saved_function f) q ≡ Some y → HasOrigin f q y
  origin q y e = on (slice_get f.blocks q.block) refl (sym (ap (λ (o : Option Block). instr_in o q.at) (get_block f.coroutine q.block (length f.names) f.blocks)) ∙ e)
    where
      on : (o : Option Block) → slice_get f.blocks q.block ≡ o → instr_in (option_map (saved_block f.coroutine (number_of_block f.coroutine q.block (length f.names) f.blocks)) o) q.at ≡ Some y → HasOrigin f q y
      on None s h = absurd (cc)
      on (Some b) s h = origin_in q.block q.at b y s (comes_from f.coroutine (length f.names) (number_of_block f.coroutine q.block (length f.names) f.blocks) b.instrs q.at y (number_least f q.block) h)
