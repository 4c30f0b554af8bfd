-- What the values of the result are: old ones that stay are what they were, and new ones are what is told of them.
use Rattle.std.proofs.Common.{◌≡◌, ◌⊎◌, inl, inr, ⊎_elim, ℕ, zero, suc, ◌+◌, ◌<◌, ◌≤◌, Bool, true, false, List, [], ◌∷◌, ◌++◌, refl, sym, ap, ◌∙◌, subst, arith}
use Rattle.std.specs.Prelude.{None, Option, Some, is_some, option_to_list, slice_get, ◌==◌, if◌then◌else◌}
use Rattle.rule_uses.specs.Undefined.{params_of}
use Rattle.rule_uses.specs.Uses.{block_values, made_by_instrs, made_by_phis, phi_values, values_at, values_in}
use Rattle.ir_laws.proofs.facts.Truth.{itself, is_number}
use Rattle.rule_laws.proofs.rules.local_rules.Names.{numbers}
use Rattle.rule_laws.proofs.rules.local_rules.ValueKinds.{instr_none, kind_none, params_none, phis_none}
use Rattle.ir_laws.proofs.facts.local_rules.Woven.{other_number}
use Rattle.rule_laws.proofs.rules.source_rules.Locals.{block_names, made_by}
use Rattle.ir_laws.proofs.paths.source_rules.Locals.{listed_either, listed_left, listed_right}
use Rattle.ir_laws.proofs.facts.Lists.{phi_names, row_of}
use Rattle.ir_laws.specs.flow_solver.Paths.{IsListed}
use Rattle.ir_parts.specs.Contents.{result_of}
use Rattle.ir_laws.specs.ir_model.Layout.{size_of}
use Rattle.ir_laws.specs.ir_model.Names.{position_of}
use Rattle.ir_laws.specs.ir_model.Ty.{Ty}
use Rattle.ir_laws.specs.ir_model.declared.instr.Instr.{Instr}
use Rattle.ir_laws.specs.ir_model.declared.instr.Phi.{Phi}
use Rattle.ir_laws.specs.ir_model.declared.module.Block.{Block}
use Rattle.ir_laws.specs.ir_model.declared.module.Function.{Function}
use Rattle.ir_laws.specs.ir_model.declared.module.Module.{Module}
use Rattle.ir_laws.specs.ir_model.declared.operand.Callee.{Callee}
use Rattle.ir_laws.specs.ir_model.declared.operand.Operand.{Operand}
use Rattle.rule_locals.specs.Markers.{block_size, made_size, slot_size}
use Rattle.ir_laws.specs.ir_locals.Tables.{first_in, or_first}
use Rattle.rule_values.specs.Kinds.{block_kind, call_kind, instr_kind, kind_if, kind_of, param_kind, phi_kind, result_kind, value_kind}
use Rattle.rule_values.specs.declared.kinds.Kind.{Kind}
use Rattle.rule_laws.specs.rules.woven_rules.Blocks.{AreWoven, AreWovenBlocks, Done, Gone, IsPutIn, IsWoven, IsWovenBlock, Kept, MayGo, NoBlock, OneBlock, Put, Remain, Stays, Unpromised}
use Rattle.ir_laws.specs.facts.woven_rules.Pairs.{Empty, Pair, Pairwise}
use Rattle.rule_laws.specs.rules.woven_rules.Parts.{Alloca, Binary, Call, CalleeStays, Cast, Direct, Gep, Icmp, Indirect, InstrStays, Load, PhiStays, Select, Store}
use Rattle.rule_laws.specs.rules.woven_rules.Weaving.{IsInPlace, Weaving}

-- ---- an instruction that stays makes what it made

pub stays_result : (R : Operand → Operand → Type 0) (i j : Instr) → InstrStays R i j → result_of j ≡ result_of i
stays_result R _ _ (Binary r op flags ty a b c d x y) = refl
stays_result R _ _ (Icmp r pred ty a b c d x y) = refl
stays_result R _ _ (Select r x y a b c d h s t) = refl
stays_result R _ _ (Cast r op nneg a c to h) = refl
stays_result R _ _ (Alloca r ty align) = refl
stays_result R _ _ (Load r ty x y align h) = refl
stays_result R _ _ (Store a c x y align s h) = refl
stays_result R _ _ (Gep r inbounds ty x y args rest h s) = refl
stays_result R _ _ (Call r must_tail ty c d args rest h s) = refl

callee_kind : (R : Operand → Operand → Type 0) (c d : Callee) (ty : Option Ty) → CalleeStays R c d → result_kind d ty ≡ result_kind c ty
callee_kind R _ _ ty (Direct c e) = refl
callee_kind R _ _ None (Indirect v n h) = refl
callee_kind R _ _ (Some t) (Indirect v n h) = refl

stays_kind : (R : Operand → Operand → Type 0) (i j : Instr) (n : ℕ) → InstrStays R i j → instr_kind j n ≡ instr_kind i n
stays_kind R _ _ n (Binary r op flags ty a b c d x y) = refl
stays_kind R _ _ n (Icmp r pred ty a b c d x y) = refl
stays_kind R _ _ n (Select r x y a b c d h s t) = ap (λ (u : Ty). kind_if r (kind_of u) n) s.ty
stays_kind R _ _ n (Cast r op nneg a c to h) = refl
stays_kind R _ _ n (Alloca r ty align) = refl
stays_kind R _ _ n (Load r ty x y align h) = refl
stays_kind R _ _ n (Store a c x y align s h) = refl
stays_kind R _ _ n (Gep r inbounds ty x y args rest h s) = refl
stays_kind R _ _ n (Call r must_tail ty c d args rest h s) = ap (λ (kind : Kind). call_kind r kind n) (callee_kind R c d ty h)

stays_size : (R : Operand → Operand → Type 0) (m : Module) (i j : Instr) (n : ℕ) → InstrStays R i j → made_size m j n ≡ made_size m i n
stays_size R m _ _ n (Binary r op flags ty a b c d x y) = refl
stays_size R m _ _ n (Icmp r pred ty a b c d x y) = refl
stays_size R m _ _ n (Select r x y a b c d h s t) = refl
stays_size R m _ _ n (Cast r op nneg a c to h) = refl
stays_size R m _ _ n (Alloca r ty align) = refl
stays_size R m _ _ n (Load r ty x y align h) = refl
stays_size R m _ _ n (Store a c x y align s h) = refl
stays_size R m _ _ n (Gep r inbounds ty x y args rest h s) = refl
stays_size R m _ _ n (Call r must_tail ty c d args rest h s) = refl

module _ (w : Weaving) (f : Function) where
  pub same_result : (made : List ℕ) (i j : Instr) → Stays w f made i j → result_of j ≡ result_of i
  same_result made _ _ (Kept i j h mark) = stays_result (IsInPlace w f made) i j h
  same_result made _ _ (Unpromised r must_tail ty a p args h) = refl

  same_kind : (made : List ℕ) (i j : Instr) (n : ℕ) → Stays w f made i j → instr_kind j n ≡ instr_kind i n
  same_kind made _ _ n (Kept i j h mark) = stays_kind (IsInPlace w f made) i j n h
  same_kind made _ _ n (Unpromised r must_tail ty a p args h) = refl

  same_size : (m : Module) (made : List ℕ) (i j : Instr) (n : ℕ) → Stays w f made i j → made_size m j n ≡ made_size m i n
  same_size m made _ _ n (Kept i j h mark) = stays_size (IsInPlace w f made) m i j n h
  same_size m made _ _ n (Unpromised r must_tail ty a p args h) = refl

pub listed_result : (o : Option ℕ) (n : ℕ) → IsListed n (option_to_list o) → o ≡ Some n
listed_result None n h = absurd h
listed_result (Some r) n (inl e) = ap (λ (k : ℕ). Some k) (sym e)
listed_result (Some r) n (inr h) = absurd h

size_none : (m : Module) (n : ℕ) (i : Instr) → (IsListed n (made_by i) → ⊥) → made_size m i n ≡ None
size_none m n (Instr.Alloca r ty align) h = ap (λ (b : Bool). if b then Some (size_of m ty) else None) (other_number r n (λ e. h (inl (sym e))))
size_none m n _ h = refl

pub is_result : (o : Option ℕ) (n : ℕ) → o ≡ Some n → IsListed n (option_to_list o)
is_result o n e = subst (λ (p : Option ℕ). IsListed n (option_to_list p)) (sym e) (inl refl)

-- what is made stays made
pub made_grows : (is : List Instr) (before : List ℕ) (n : ℕ) → IsListed n before → IsListed n (made_by_instrs before is)
made_grows [] before n h = h
made_grows (i ∷ is) before n h = made_grows is (made_by i ++ before) n (listed_right n (made_by i) before h)

pub phis_listed : (ps : List Phi) (before : List ℕ) (n : ℕ) → IsListed n (made_by_phis before ps) → IsListed n before ⊎ IsListed n (phi_names ps)
phis_listed [] before n h = inl h
phis_listed (p ∷ ps) before n h = ⊎_elim first (λ k. inr (inr k)) (phis_listed ps (p.result ∷ before) n h)
  where
    first : IsListed n (p.result ∷ before) → IsListed n before ⊎ IsListed n (phi_names (p ∷ ps))
    first (inl e) = inr (inl e)
    first (inr k) = inl k

pub phis_same : (R : ℕ → Operand → Operand → Type 0) (ps qs : List Phi) → Pairwise (PhiStays R) ps qs → phi_names qs ≡ phi_names ps
phis_same R _ _ Empty = refl
phis_same R _ _ (Pair p q ps qs h rest) = λ k. h.result k ∷ phis_same R ps qs rest k

phis_kind : (R : ℕ → Operand → Operand → Type 0) (n : ℕ) (ps qs : List Phi) → Pairwise (PhiStays R) ps qs → first_in phi_kind qs n ≡ first_in phi_kind ps n
phis_kind R n _ _ Empty = refl
phis_kind R n _ _ (Pair p q ps qs h rest) = λ k. or_first (kind_if (h.result k) (kind_of (h.ty k)) n) (phis_kind R n ps qs rest k)

-- ---- old values that stay

module _ (w : Weaving) (m : Module) (f g : Function) (v : ℕ) (old : v < w.first) (here : w.goes v ≡ false) where
  gone_none : (i : Instr) → MayGo w i → IsListed v (made_by i) → ⊥
  gone_none i h l = let t : true ≡ false = sym (h v (listed_result (result_of i) v l)) ∙ here in absurd (cc)

  put_none : (block : ℕ) (made : List ℕ) (j : Instr) → IsPutIn w m f block made j → IsListed v (made_by j) → ⊥
  put_none block made j h l = let low : w.first ≤ v = (h.result v (listed_result (result_of j) v l)).low in absurd (omega (arith, low, old))

  module _ {T : Type 0} (one : Instr → ℕ → Option T) (none : (i : Instr) → (IsListed v (made_by i) → ⊥) → one i v ≡ None) (same : (made : List ℕ) (i j : Instr) → Stays w f made i j → one j v ≡ one i v) where
    first_same : (block : ℕ) (made : List ℕ) (is js : List Instr) → AreWoven w m f block made is js → first_in one js v ≡ first_in one is v
    first_same block made _ _ (Done _) = refl
    first_same block made _ _ (Put _ j is js h rest) =
        ap (λ o. or_first o (first_in one js v)) (none j (put_none block made j h)) ∙ first_same block (made_by j ++ made) is js rest
    first_same block made _ _ (Gone _ i is js h rest) =
        first_same block made is js rest ∙ sym (ap (λ o. or_first o (first_in one is v)) (none i (gone_none i h)))
    first_same block made _ _ (Remain _ i j is js h rest) = λ k. or_first (same made i j h k) (first_same block (made_by j ++ made) is js rest k)

  blocks_kind : (block : ℕ) (bs cs : List Block) → AreWovenBlocks w m f g block bs cs → first_in block_kind cs v ≡ first_in block_kind bs v
  blocks_kind block _ _ (NoBlock _) = refl
  blocks_kind block _ _ (OneBlock _ b c bs cs h rest) =
      λ k. or_first
      (or_first (phis_kind (λ (from : ℕ). IsInPlace w f (values_at g (position_of g from))) v b.phis c.phis h.phis k) (first_same instr_kind (instr_none v) (λ made i j s. same_kind w f made i j v s) block (phi_values c) b.instrs c.instrs h.instrs k))
      (blocks_kind (block + 1) bs cs rest k)

  blocks_size : (block : ℕ) (bs cs : List Block) → AreWovenBlocks w m f g block bs cs → first_in (block_size m) cs v ≡ first_in (block_size m) bs v
  blocks_size block _ _ (NoBlock _) = refl
  blocks_size block _ _ (OneBlock _ b c bs cs h rest) =
      λ k. or_first (first_same (made_size m) (size_none m v) (λ made i j s. same_size w f m made i j v s) block (phi_values c) b.instrs c.instrs h.instrs k) (blocks_size (block + 1) bs cs rest k)

  pub old_kind : IsWoven w m f g → value_kind g v ≡ value_kind f v
  old_kind h = λ k. or_first (first_in param_kind (h.params k) v) (blocks_kind 0 f.blocks g.blocks h.blocks k)

  pub old_size : IsWoven w m f g → slot_size m g v ≡ slot_size m f v
  old_size h = blocks_size 0 f.blocks g.blocks h.blocks

-- ---- new values

module _ (q : Option Kind) where
  -- none, or what is told
  abbrev IsIt : Option Kind → Type 0
  IsIt o = (o ≡ None) ⊎ (o ≡ q)

  both_are : (o p : Option Kind) → IsIt o → IsIt p → IsIt (or_first o p)
  both_are None p h k = k
  both_are (Some a) p h k = h

  first_is : (o p : Option Kind) → o ≡ q → IsIt p → or_first o p ≡ q
  first_is None p e (inl d) = d ∙ e
  first_is None p e (inr d) = d
  first_is (Some a) p e k = e

  second_is : (o p : Option Kind) → IsIt o → p ≡ q → or_first o p ≡ q
  second_is None p h e = e
  second_is (Some a) p (inl d) e = absurd (cc)
  second_is (Some a) p (inr d) e = d

module _ (w : Weaving) (m : Module) (f g : Function) (n : ℕ) (low : w.first ≤ n) (below : (v : ℕ) → IsListed v (numbers f) → v < w.first) where
  abbrev Told : Option Kind → Type 0
  Told = IsIt (w.kinds n)

  -- none of these names
  abbrev Unlisted : List ℕ → Type 0
  Unlisted ns = IsListed n ns → ⊥

  made_told : (block : ℕ) (made : List ℕ) (j : Instr) → IsPutIn w m f block made j → Told (instr_kind j n)
  made_told block made j h = on (result_of j) refl
    where
      on : (o : Option ℕ) → result_of j ≡ o → Told (instr_kind j n)
      on None e = inl (instr_none n j (λ l. let t : None ≡ Some n = sym e ∙ listed_result (result_of j) n l in absurd (cc)))
      on (Some r) e = ⊎_elim (λ (same : r ≡ n). inr ((h.result n (e ∙ ap (λ (k : ℕ). Some k) same)).kind)) (λ other. inl (instr_none n j (λ l. other (let t : Some r ≡ Some n = sym e ∙ listed_result (result_of j) n l in cc)))) (is_number r n)

  unmade : (made : List ℕ) (i j : Instr) → Stays w f made i j → Unlisted (made_by i) → Unlisted (made_by j)
  unmade made i j s h l = h (subst (λ (o : Option ℕ). IsListed n (option_to_list o)) (same_result w f made i j s) l)

  instrs_told : (block : ℕ) (made : List ℕ) (is js : List Instr) → AreWoven w m f block made is js → Unlisted (row_of made_by is) → Told (first_in instr_kind js n)
  instrs_told block made _ _ (Done _) h = inl refl
  instrs_told block made _ _ (Put _ j is js p rest) h = both_are (w.kinds n) (instr_kind j n) (first_in instr_kind js n) (made_told block made j p) (instrs_told block (made_by j ++ made) is js rest h)
  instrs_told block made _ _ (Gone _ i is js p rest) h = instrs_told block made is js rest (λ l. h (listed_right n (made_by i) (row_of made_by is) l))
  instrs_told block made _ _ (Remain _ i j is js s rest) h =
      both_are (w.kinds n) (instr_kind j n) (first_in instr_kind js n)
      (inl (instr_none n j (unmade made i j s (λ l. h (listed_left n (made_by i) (row_of made_by is) l)))))
      (instrs_told block (made_by j ++ made) is js rest (λ l. h (listed_right n (made_by i) (row_of made_by is) l)))

  -- a new value that is made is what is told of it
  instrs_made : (block : ℕ) (made : List ℕ) (is js : List Instr) → AreWoven w m f block made is js → Unlisted (row_of made_by is) → IsListed n (made_by_instrs made js) → IsListed n made ⊎ (first_in instr_kind js n ≡ w.kinds n)
  instrs_made block made _ _ (Done _) h l = inl l
  instrs_made block made _ _ (Put _ j is js p rest) h l =
      ⊎_elim
      (λ k. ⊎_elim
      (λ here. inr (first_is (w.kinds n) (instr_kind j n) (first_in instr_kind js n) (p.result n (listed_result (result_of j) n here)).kind (instrs_told block (made_by j ++ made) is js rest h)))
      (λ more. inl more)
      (listed_either n (made_by j) made k))
      (λ e. inr (second_is (w.kinds n) (instr_kind j n) (first_in instr_kind js n) (made_told block made j p) e))
      (instrs_made block (made_by j ++ made) is js rest h l)
  instrs_made block made _ _ (Gone _ i is js p rest) h l = instrs_made block made is js rest (λ k. h (listed_right n (made_by i) (row_of made_by is) k)) l
  instrs_made block made _ _ (Remain _ i j is js s rest) h l =
      let none : Unlisted (made_by j) = unmade made i j s (λ k. h (listed_left n (made_by i) (row_of made_by is) k)) in
      ⊎_elim
      (λ k. ⊎_elim (λ here. absurd (none here)) (λ more. inl more) (listed_either n (made_by j) made k))
      (λ e. inr (second_is (w.kinds n) (instr_kind j n) (first_in instr_kind js n) (inl (instr_none n j none)) e))
      (instrs_made block (made_by j ++ made) is js rest (λ k. h (listed_right n (made_by i) (row_of made_by is) k)) l)

  phis_unlisted : (block : ℕ) (b c : Block) → IsWovenBlock w m f g block b c → Unlisted (block_names b) → Unlisted (phi_names c.phis)
  phis_unlisted block b c s h l =
      h (inr (listed_left n (phi_names b.phis) (row_of made_by b.instrs) (subst (λ (ns : List ℕ). IsListed n ns) (phis_same (λ (from : ℕ). IsInPlace w f (values_at g (position_of g from))) b.phis c.phis s.phis) l)))

  instrs_unlisted : (b : Block) → Unlisted (block_names b) → Unlisted (row_of made_by b.instrs)
  instrs_unlisted b h l = h (inr (listed_right n (phi_names b.phis) (row_of made_by b.instrs) l))

  block_told : (block : ℕ) (b c : Block) → IsWovenBlock w m f g block b c → Unlisted (block_names b) → Told (block_kind c n)
  block_told block b c s h =
      both_are (w.kinds n) (first_in phi_kind c.phis n) (first_in instr_kind c.instrs n)
      (inl (phis_none n c.phis (phis_unlisted block b c s h)))
      (instrs_told block (phi_values c) b.instrs c.instrs s.instrs (instrs_unlisted b h))

  block_made : (block : ℕ) (b c : Block) → IsWovenBlock w m f g block b c → Unlisted (block_names b) → IsListed n (block_values c) → block_kind c n ≡ w.kinds n
  block_made block b c s h l =
      let none : Unlisted (phi_names c.phis) = phis_unlisted block b c s h in
      second_is (w.kinds n) (first_in phi_kind c.phis n) (first_in instr_kind c.instrs n) (inl (phis_none n c.phis none))
      (⊎_elim
      (λ k. absurd (⊎_elim (λ (x : ⊥). x) none (phis_listed c.phis [] n k)))
      (λ e. e)
      (instrs_made block (phi_values c) b.instrs c.instrs s.instrs (instrs_unlisted b h) l))

  blocks_told : (block : ℕ) (bs cs : List Block) → AreWovenBlocks w m f g block bs cs → Unlisted (row_of block_names bs) → Told (first_in block_kind cs n)
  blocks_told block _ _ (NoBlock _) h = inl refl
  blocks_told block _ _ (OneBlock _ b c bs cs s rest) h =
      both_are (w.kinds n) (block_kind c n) (first_in block_kind cs n)
      (block_told block b c s (λ l. h (listed_left n (block_names b) (row_of block_names bs) l)))
      (blocks_told (block + 1) bs cs rest (λ l. h (listed_right n (block_names b) (row_of block_names bs) l)))

  blocks_made : (block : ℕ) (bs cs : List Block) → AreWovenBlocks w m f g block bs cs → Unlisted (row_of block_names bs) → (at : ℕ) (c : Block) → slice_get cs at ≡ Some c → IsListed n (block_values c) → first_in block_kind cs n ≡ w.kinds n
  blocks_made block _ _ (NoBlock _) h at d e l = absurd (cc)
  blocks_made block _ _ (OneBlock _ b c bs cs s rest) h zero d e l =
      let is_one : d ≡ c = cc in
      first_is (w.kinds n) (block_kind c n) (first_in block_kind cs n)
      (block_made block b c s (λ k. h (listed_left n (block_names b) (row_of block_names bs) k)) (subst (λ (x : Block). IsListed n (block_values x)) is_one l))
      (blocks_told (block + 1) bs cs rest (λ k. h (listed_right n (block_names b) (row_of block_names bs) k)))
  blocks_made block _ _ (OneBlock _ b c bs cs s rest) h (suc at) d e l =
      second_is (w.kinds n) (block_kind c n) (first_in block_kind cs n)
      (block_told block b c s (λ k. h (listed_left n (block_names b) (row_of block_names bs) k)))
      (blocks_made (block + 1) bs cs rest (λ k. h (listed_right n (block_names b) (row_of block_names bs) k)) at d e l)

  unlisted : Unlisted (numbers f)
  unlisted l = let high : n < w.first = below n l in absurd (omega (arith, high, low))

  pub new_kind : IsWoven w m f g → (block : ℕ) → IsListed n (values_at g block) → value_kind g n ≡ w.kinds n
  new_kind h block l = on (slice_get g.blocks block) refl l
    where
      on : (o : Option Block) → slice_get g.blocks block ≡ o → IsListed n (values_in o) → value_kind g n ≡ w.kinds n
      on None e k = absurd k
      on (Some c) e k =
          ap (λ (o : Option Kind). or_first o (first_in block_kind g.blocks n))
          (ap (λ ps. first_in param_kind ps n) h.params ∙ params_none n f.params (λ p. unlisted (listed_left n (params_of f) (row_of block_names f.blocks) p)))
          ∙ blocks_made 0 f.blocks g.blocks h.blocks (λ p. unlisted (listed_right n (params_of f) (row_of block_names f.blocks) p)) block c e k

  -- a new name is none of the function's
  pub none_new : value_kind f n ≡ None
  none_new = kind_none f n unlisted

-- ---- what is made has a kind

some_first : (o p : Option Kind) → is_some o ≡ true → is_some (or_first o p) ≡ true
some_first None p e = absurd (cc)
some_first (Some a) p e = refl

some_second : (o p : Option Kind) → is_some p ≡ true → is_some (or_first o p) ≡ true
some_second None p e = e
some_second (Some a) p e = refl

module _ (n : ℕ) where
  some_if : (r : ℕ) (kind : Kind) → Some r ≡ Some n → is_some (kind_if r kind n) ≡ true
  some_if r kind e = let same : r ≡ n = cc in ap (λ (b : Bool). is_some (if b then Some kind else None)) (ap (λ (k : ℕ). k == n) same ∙ itself n)

  pub instr_some : (i : Instr) → result_of i ≡ Some n → is_some (instr_kind i n) ≡ true
  instr_some (Instr.Binary r op flags ty left right) e = some_if r (kind_of ty) e
  instr_some (Instr.Icmp r pred ty left right) e = some_if r (Kind.Int 1) e
  instr_some (Instr.Select r c a b) e = some_if r (kind_of a.ty) e
  instr_some (Instr.Cast r op nneg arg to) e = some_if r (kind_of to) e
  instr_some (Instr.Alloca r ty align) e = some_if r Kind.Ptr e
  instr_some (Instr.Load r ty address align) e = some_if r (kind_of ty) e
  instr_some (Instr.Store arg address align) e = absurd (cc)
  instr_some (Instr.Gep r inbounds ty base indices) e = some_if r Kind.Ptr e
  instr_some (Instr.Call None must_tail ty callee args) e = absurd (cc)
  instr_some (Instr.Call (Some r) must_tail ty callee args) e = some_if r (result_kind callee ty) e

  instrs_some : (is : List Instr) (made : List ℕ) → IsListed n (made_by_instrs made is) → IsListed n made ⊎ (is_some (first_in instr_kind is n) ≡ true)
  instrs_some [] made l = inl l
  instrs_some (i ∷ is) made l =
      ⊎_elim
      (λ k. ⊎_elim (λ here. inr (some_first (instr_kind i n) (first_in instr_kind is n) (instr_some i (listed_result (result_of i) n here)))) (λ more. inl more) (listed_either n (made_by i) made k))
      (λ e. inr (some_second (instr_kind i n) (first_in instr_kind is n) e))
      (instrs_some is (made_by i ++ made) l)

  phis_some : (ps : List Phi) → IsListed n (phi_names ps) → is_some (first_in phi_kind ps n) ≡ true
  phis_some [] l = absurd l
  phis_some (p ∷ ps) (inl e) = some_first (phi_kind p n) (first_in phi_kind ps n) (some_if p.result (kind_of p.ty) (ap (λ (k : ℕ). Some k) (sym e)))
  phis_some (p ∷ ps) (inr l) = some_second (phi_kind p n) (first_in phi_kind ps n) (phis_some ps l)

  block_some : (b : Block) → IsListed n (block_values b) → is_some (block_kind b n) ≡ true
  block_some b l =
      ⊎_elim
      (λ k. some_first (first_in phi_kind b.phis n) (first_in instr_kind b.instrs n) (⊎_elim (λ none. absurd none) (λ p. phis_some b.phis p) (phis_listed b.phis [] n k)))
      (λ e. some_second (first_in phi_kind b.phis n) (first_in instr_kind b.instrs n) e)
      (instrs_some b.instrs (phi_values b) l)

  blocks_some : (bs : List Block) (at : ℕ) (b : Block) → slice_get bs at ≡ Some b → IsListed n (block_values b) → is_some (first_in block_kind bs n) ≡ true
  blocks_some [] at b e l = absurd (cc)
  blocks_some (c ∷ bs) zero b e l = let is_one : b ≡ c = cc in some_first (block_kind c n) (first_in block_kind bs n) (block_some c (subst (λ (x : Block). IsListed n (block_values x)) is_one l))
  blocks_some (c ∷ bs) (suc at) b e l = some_second (block_kind c n) (first_in block_kind bs n) (blocks_some bs at b e l)

  pub made_some : (g : Function) (block : ℕ) → IsListed n (values_at g block) → is_some (value_kind g n) ≡ true
  made_some g block l = on (slice_get g.blocks block) refl l
    where
      on : (o : Option Block) → slice_get g.blocks block ≡ o → IsListed n (values_in o) → is_some (value_kind g n) ≡ true
      on None e k = absurd k
      on (Some c) e k = some_second (first_in param_kind g.params n) (first_in block_kind g.blocks n) (blocks_some g.blocks block c e k)
