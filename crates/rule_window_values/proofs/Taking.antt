-- Values that phis take on the own edges of suspends.
use Rattle.std.proofs.Common.{◌≡◌, ℕ, zero, suc, ◌+◌, ◌⊎◌, Bool, true, false, List, [], ◌∷◌, Some, None, Option, refl, sym, ap, ◌∙◌, subst, ⊎_elim, inl, inr, arith, eq-eqb}
use Rattle.std.specs.Prelude.{◌↔◌, ◌==◌, bit_or, if◌then◌else◌, option_to_list, slice_get}
use Rattle.std.proofs.lemmas.Bool.{eqb-true, false≢true}
use Rattle.flow_bits.specs.Bits.{HasBit}
use Rattle.rule_uses.specs.flow_blocks.Words.{word_at}
use Rattle.rule_uses.specs.Questions.{result_word}
use Rattle.rule_uses.specs.Uses.{local_of}
use Rattle.flow_solver.specs.Paths.{IsListed}
use Rattle.ir_model.specs.Names.{position_of}
use Rattle.ir_model.specs.declared.instr.Incoming.{Incoming}
use Rattle.ir_model.specs.declared.instr.Phi.{Phi}
use Rattle.ir_model.specs.declared.module.Block.{Block}
use Rattle.ir_model.specs.declared.module.Function.{Function}
use Rattle.ir_paths.proofs.Search.{either, or_left, or_right}
use Rattle.ir_paths.specs.Windows.{destroy_label, resume_label}
use Rattle.ir_paths.specs.declared.point.Point.{Point}
use Rattle.rule_window_values.proofs.Bits.{Asks, and_bit, either_bit, no_bit, values_bit}
use Rattle.rule_window_values.proofs.Iffs.{either_none, either_same, same_itself, step_same, then_same}
use Rattle.rule_window_values.proofs.Using.{operand_is}
use Rattle.rule_window_values.specs.Kept.{TakesFrom, own_blocks, phis_at, phis_in}
use Rattle.rule_window_values.specs.Words.{is_own_edge, label_leads, own_at, own_if, own_word, span_word, taken_blocks, taken_incoming, taken_phis, taken_word}
use Rattle.rule_window_values.specs.declared.chunk.Chunk.{Chunk}
use Rattle.rule_window_values.specs.declared.spans.Span.{Span}

-- ---- some of a list

abbrev pub AnyOf : {X : Type 0} → (X → Type 0) → List X → Type 0
AnyOf P [] = ⊥
AnyOf P (x ∷ xs) = P x ⊎ AnyOf P xs

pub any_from : {X : Type 0} (P : X → Type 0) (xs : List X) → AnyOf P xs → (x : X) × (IsListed x xs × P x)
any_from P [] h = absurd h
any_from {X} P (x ∷ xs) h = ⊎_elim (λ e. (x, (inl refl, e))) (λ later. let found : (y : X) × (IsListed y xs × P y) = any_from P xs later in (found.0, (inr found.1.0, found.1.1))) h

pub any_to : {X : Type 0} (P : X → Type 0) (xs : List X) (x : X) → IsListed x xs → P x → AnyOf P xs
any_to P [] x l h = absurd l
any_to P (y ∷ ys) x l h = ⊎_elim (λ e. inl (subst P e h)) (λ later. inr (any_to P ys x later h)) l

-- ---- what is taken

pub record IsTaken (f : Function) (v c : ℕ) (ch : Chunk) (block : ℕ) (i : Incoming) : Type 0 where
  pub takes : IsListed v (option_to_list (local_of i.value))
  pub own : HasBit (own_at f ch (position_of f i.from) block) c

abbrev pub TakenBy : Function → ℕ → ℕ → Chunk → ℕ → Phi → Type 0
TakenBy f v c ch block p = AnyOf (IsTaken f v c ch block) p.incoming

abbrev pub TakenIn : Function → ℕ → ℕ → Chunk → ℕ → List Block → Type 0
TakenIn f v c ch block [] = ⊥
TakenIn f v c ch block (b ∷ bs) = AnyOf (TakenBy f v c ch block) b.phis ⊎ TakenIn f v c ch (block + 1) bs

record IsTakenAt (f : Function) (v c : ℕ) (ch : Chunk) (block : ℕ) (bs : List Block) : Type 0 where
  at : ℕ
  found : Block
  is_found : slice_get bs at ≡ Some found
  taken : AnyOf (TakenBy f v c ch (block + at)) found.phis

taken_from : (f : Function) (v c : ℕ) (ch : Chunk) (block : ℕ) (bs : List Block) → TakenIn f v c ch block bs → IsTakenAt f v c ch block bs
taken_from f v c ch block [] h = absurd h
taken_from f v c ch block (b ∷ bs) h = ⊎_elim here (λ t. later (taken_from f v c ch (block + 1) bs t)) h
  where
    here : AnyOf (TakenBy f v c ch block) b.phis → IsTakenAt f v c ch block (b ∷ bs)
    here t = let same : block ≡ block + 0 = omega arith in record { at = 0; found = b; is_found = refl; taken = subst (λ (n : ℕ). AnyOf (TakenBy f v c ch n) b.phis) same t }

    later : IsTakenAt f v c ch (block + 1) bs → IsTakenAt f v c ch block (b ∷ bs)
    later rest =
        let same : (block + 1) + rest.at ≡ block + suc rest.at = omega arith in
        record { at = suc rest.at; found = rest.found; is_found = rest.is_found; taken = subst (λ (n : ℕ). AnyOf (TakenBy f v c ch n) rest.found.phis) same rest.taken }

taken_to : (f : Function) (v c : ℕ) (ch : Chunk) (block : ℕ) (bs : List Block) (at : ℕ) (b : Block) → slice_get bs at ≡ Some b → AnyOf (TakenBy f v c ch (block + at)) b.phis → TakenIn f v c ch block bs
taken_to f v c ch block [] at b e t = absurd (cc)
taken_to f v c ch block (x ∷ bs) zero b e t =
    let same : block + 0 ≡ block = omega arith in
    inl (subst (λ (n : ℕ). AnyOf (TakenBy f v c ch n) x.phis) same (subst (λ (y : Block). AnyOf (TakenBy f v c ch (block + 0)) y.phis) (sym (some_same x b e)) t))
  where
    some_same : (x b : Block) → Some x ≡ Some b → x ≡ b
    some_same x b e = cc
taken_to f v c ch block (x ∷ bs) (suc at) b e t =
    let same : block + suc at ≡ (block + 1) + at = omega arith in
    inr (taken_to f v c ch (block + 1) bs at b e (subst (λ (n : ℕ). AnyOf (TakenBy f v c ch n) b.phis) same t))

taken_bits : (f : Function) (numbers : List (Option ℕ)) (ch : Chunk) (block c : ℕ) (i : Incoming) →
    HasBit (taken_word f numbers ch block i) c ↔ (HasBit (result_word numbers ch.number 0 (local_of i.value)) c × HasBit (own_at f ch (position_of f i.from) block) c)
unfolding taken_word
taken_bits f numbers ch block c i = and_bit (result_word numbers ch.number 0 (local_of i.value)) (own_at f ch (position_of f i.from) block) c

module _ (f : Function) (numbers : List (Option ℕ)) (v c : ℕ) (ch : Chunk) (a : Asks numbers ch.number v c) where
  one_taken : (block told : ℕ) (i : Incoming) → HasBit (bit_or told (taken_word f numbers ch block i)) c ↔ (HasBit told c ⊎ IsTaken f v c ch block i)
  one_taken block told i =
      let word : ℕ = taken_word f numbers ch block i in
      then_same (HasBit (bit_or told word) c) (HasBit told c ⊎ HasBit word c) (HasBit told c ⊎ IsTaken f v c ch block i)
      (either_bit told word c)
      (either_same (HasBit told c) (HasBit told c) (HasBit word c) (IsTaken f v c ch block i) (same_itself (HasBit told c)) is)
    where
      operand : HasBit (result_word numbers ch.number 0 (local_of i.value)) c ↔ IsListed v (option_to_list (local_of i.value))
      operand = operand_is numbers v c ch a (local_of i.value)

      bits : HasBit (taken_word f numbers ch block i) c ↔ (HasBit (result_word numbers ch.number 0 (local_of i.value)) c × HasBit (own_at f ch (position_of f i.from) block) c)
      bits = taken_bits f numbers ch block c i

      is : HasBit (taken_word f numbers ch block i) c ↔ IsTaken f v c ch block i
      is = ((λ h. let two = bits.0 h in record { takes = operand.0 two.0; own = two.1 }), (λ t. bits.1 (operand.1 t.takes, t.own)))

  incoming_taken : (block told : ℕ) (is : List Incoming) → HasBit (taken_incoming f numbers ch block told is) c ↔ (HasBit told c ⊎ AnyOf (IsTaken f v c ch block) is)
  incoming_taken block told [] = either_none (HasBit told c)
  incoming_taken block told (i ∷ is) =
      let next : ℕ = bit_or told (taken_word f numbers ch block i) in
      step_same (HasBit (taken_incoming f numbers ch block next is) c) (HasBit next c) (HasBit told c) (IsTaken f v c ch block i) (AnyOf (IsTaken f v c ch block) is) (AnyOf (IsTaken f v c ch block) (i ∷ is))
      (incoming_taken block next is) (one_taken block told i) (same_itself (AnyOf (IsTaken f v c ch block) (i ∷ is)))

  phis_taken : (block told : ℕ) (ps : List Phi) → HasBit (taken_phis f numbers ch block told ps) c ↔ (HasBit told c ⊎ AnyOf (TakenBy f v c ch block) ps)
  phis_taken block told [] = either_none (HasBit told c)
  phis_taken block told (p ∷ ps) =
      let next : ℕ = taken_incoming f numbers ch block told p.incoming in
      step_same (HasBit (taken_phis f numbers ch block next ps) c) (HasBit next c) (HasBit told c) (TakenBy f v c ch block p) (AnyOf (TakenBy f v c ch block) ps) (AnyOf (TakenBy f v c ch block) (p ∷ ps))
      (phis_taken block next ps) (incoming_taken block told p.incoming) (same_itself (AnyOf (TakenBy f v c ch block) (p ∷ ps)))

  blocks_taken : (block told : ℕ) (bs : List Block) → HasBit (taken_blocks f numbers ch block told bs) c ↔ (HasBit told c ⊎ TakenIn f v c ch block bs)
  blocks_taken block told [] = either_none (HasBit told c)
  blocks_taken block told (b ∷ bs) =
      let next : ℕ = taken_phis f numbers ch block told b.phis in
      step_same (HasBit (taken_blocks f numbers ch (block + 1) next bs) c) (HasBit next c) (HasBit told c) (AnyOf (TakenBy f v c ch block) b.phis) (TakenIn f v c ch (block + 1) bs) (TakenIn f v c ch block (b ∷ bs))
      (blocks_taken (block + 1) next bs) (phis_taken block told b.phis) (same_itself (TakenIn f v c ch block (b ∷ bs)))

-- ---- own edges

own_by : (f : Function) (ch : Chunk) (from block c : ℕ) (b : Bool) → HasBit (if b then word_at ch.own from else 0) c ↔ ((b ≡ true) × HasBit (word_at ch.own from) c)
own_by f ch from block c true = ((λ h. (refl, h)), (λ h. h.1))
own_by f ch from block c false = ((λ h. absurd (no_bit c h)), (λ h. absurd (false≢true h.0)))

own_bits : (f : Function) (ch : Chunk) (from block c : ℕ) → HasBit (own_at f ch from block) c ↔ ((is_own_edge f from block ≡ true) × HasBit (word_at ch.own from) c)
own_bits f ch from block c = own_by f ch from block c (is_own_edge f from block)

pub edge_listed : (f : Function) (s : Point) (block : ℕ) → (is_own_edge f s.block block ≡ true) ↔ IsListed block (own_blocks f s)
edge_listed f s block = (
  (λ h. ⊎_elim (λ l. inl (eqb-true block (position_of f (resume_label f s)) l)) (λ r. inr (inl (eqb-true block (position_of f (destroy_label f s)) r))) (either (label_leads f 0 s.block block) (label_leads f 1 s.block block) h)),
  (λ l. ⊎_elim (λ e. or_left (label_leads f 0 s.block block) (label_leads f 1 s.block block) (eq-eqb block (position_of f (resume_label f s)) e))
      (λ later. ⊎_elim (λ e. or_right (label_leads f 0 s.block block) (label_leads f 1 s.block block) (eq-eqb block (position_of f (destroy_label f s)) e)) (λ none. absurd none) later) l),
)

-- the value is made in the window of a suspend of the block
abbrev pub IsOwned : ℕ → ℕ → Span → Type 0
IsOwned v block s = (block ≡ s.block) × IsListed v s.values

module _ (numbers : List (Option ℕ)) (chunk v c : ℕ) (a : Asks numbers chunk v c) where
  pub span_bit : (s : Span) → HasBit (span_word numbers chunk s) c ↔ IsListed v s.values
  span_bit s =
      let bits = values_bit numbers chunk v c a 0 s.values in
      ((λ h. ⊎_elim (λ z. absurd (no_bit c z)) (λ x. x) (bits.0 h)), (λ x. bits.1 (inr x)))

  owned_if : (block word : ℕ) (s : Span) (b : Bool) → (block == s.block) ≡ b → HasBit (own_if b word (span_word numbers chunk s)) c ↔ (HasBit word c ⊎ IsOwned v block s)
  owned_if block word s true e =
      let bits = either_bit word (span_word numbers chunk s) c in
      let span = span_bit s in
      ((λ h. ⊎_elim (λ l. inl l) (λ r. inr (eqb-true block s.block e, span.0 r)) (bits.0 h)), (λ h. bits.1 (⊎_elim (λ l. inl l) (λ r. inr (span.1 r.1)) h)))
  owned_if block word s false e = ((λ h. inl h), (λ h. ⊎_elim (λ l. l) (λ r. absurd (false≢true (sym e ∙ eq-eqb block s.block r.0))) h))

  own_told : (block word : ℕ) (ss : List Span) → HasBit (own_word numbers chunk block word ss) c ↔ (HasBit word c ⊎ AnyOf (IsOwned v block) ss)
  own_told block word [] = either_none (HasBit word c)
  own_told block word (s ∷ ss) =
      let next : ℕ = own_if (block == s.block) word (span_word numbers chunk s) in
      step_same (HasBit (own_word numbers chunk block next ss) c) (HasBit next c) (HasBit word c) (IsOwned v block s) (AnyOf (IsOwned v block) ss) (AnyOf (IsOwned v block) (s ∷ ss))
      (own_told block next ss) (owned_if block word s (block == s.block) refl) (same_itself (AnyOf (IsOwned v block) (s ∷ ss)))

  pub owned_told : (block : ℕ) (ss : List Span) → HasBit (own_word numbers chunk block 0 ss) c ↔ AnyOf (IsOwned v block) ss
  owned_told block ss =
      let told = own_told block 0 ss in
      ((λ h. ⊎_elim (λ z. absurd (no_bit c z)) (λ x. x) (told.0 h)), (λ x. told.1 (inr x)))

-- ---- all of it

-- a phi of a block takes the value from another on an own edge, where a span of that block has the value
pub record TakesOwn (f : Function) (v : ℕ) (spans : List Span) : Type 0 where
  pub block : ℕ
  pub span : Span
  pub is_span : IsListed span spans
  pub has : IsListed v span.values
  pub is_own : is_own_edge f span.block block ≡ true
  pub takes : TakesFrom f v span.block block

module _ (f : Function) (numbers : List (Option ℕ)) (v c : ℕ) (ch : Chunk) (spans : List Span) (a : Asks numbers ch.number v c) (own : (block : ℕ) → word_at ch.own block ≡ own_word numbers ch.number block 0 spans) where
  some_local : (o : Option ℕ) → IsListed v (option_to_list o) → o ≡ Some v
  some_local None l = absurd l
  some_local (Some w) l = ⊎_elim (λ e. ap (λ (x : ℕ). Some x) (sym e)) (λ none. absurd none) l

  in_found : (block : ℕ) (b : Block) (p : Phi) → slice_get f.blocks block ≡ Some b → IsListed p b.phis → IsListed p (phis_at f block)
  in_found block b p e l = subst (λ (o : Option Block). IsListed p (phis_in o)) (sym e) l

  owned : (from : ℕ) → HasBit (word_at ch.own from) c → AnyOf (IsOwned v from) spans
  owned from h = (owned_told numbers ch.number v c a from spans).0 (subst (λ (w : ℕ). HasBit w c) (own from) h)

  takes_by : (block : ℕ) (b : Block) (p : Phi) (i : Incoming) → slice_get f.blocks block ≡ Some b → IsListed p b.phis → IsListed i p.incoming → IsTaken f v c ch block i → TakesOwn f v spans
  takes_by block b p i e lp li t =
      let two = (own_bits f ch (position_of f i.from) block c).0 t.own in
      let found : (s : Span) × (IsListed s spans × IsOwned v (position_of f i.from) s) = any_from (IsOwned v (position_of f i.from)) spans (owned (position_of f i.from) two.1) in
      let same : position_of f i.from ≡ found.0.block = found.1.1.0 in
      record {
        block = block;
        span = found.0;
        is_span = found.1.0;
        has = found.1.1.1;
        is_own = subst (λ (n : ℕ). is_own_edge f n block ≡ true) same two.0;
        takes = record { phi = p; incoming = i; stands = in_found block b p e lp; comes = li; is_from = same; takes = some_local (local_of i.value) t.takes };
      }

  takes_sound : TakenIn f v c ch 0 f.blocks → TakesOwn f v spans
  takes_sound h =
      let at : IsTakenAt f v c ch 0 f.blocks = taken_from f v c ch 0 f.blocks h in
      let plain : 0 + at.at ≡ at.at = omega arith in
      let phi : (p : Phi) × (IsListed p at.found.phis × TakenBy f v c ch (0 + at.at) p) = any_from (TakenBy f v c ch (0 + at.at)) at.found.phis at.taken in
      let one : (i : Incoming) × (IsListed i phi.0.incoming × IsTaken f v c ch (0 + at.at) i) = any_from (IsTaken f v c ch (0 + at.at)) phi.0.incoming phi.1.1 in
      takes_by at.at at.found phi.0 one.0 at.is_found phi.1.0 one.1.0 (subst (λ (n : ℕ). IsTaken f v c ch n one.0) plain one.1.1)

  phi_found : (block : ℕ) (p : Phi) (o : Option Block) → slice_get f.blocks block ≡ o → IsListed p (phis_in o) → AnyOf (IsTaken f v c ch block) p.incoming → TakenIn f v c ch 0 f.blocks
  phi_found block p None e l t = absurd l
  phi_found block p (Some b) e l t =
      let plain : block ≡ 0 + block = omega arith in
      taken_to f v c ch 0 f.blocks block b e (any_to (TakenBy f v c ch (0 + block)) b.phis p l (subst (λ (n : ℕ). TakenBy f v c ch n p) plain t))

  takes_complete : TakesOwn f v spans → TakenIn f v c ch 0 f.blocks
  takes_complete t =
      let i = t.takes.incoming in
      let from : ℕ = position_of f i.from in
      let word : HasBit (word_at ch.own from) c =
      subst (λ (w : ℕ). HasBit w c) (sym (own from)) ((owned_told numbers ch.number v c a from spans).1 (any_to (IsOwned v from) spans t.span t.is_span (t.takes.is_from, t.has)))
      in
      let edge : is_own_edge f from t.block ≡ true = subst (λ (n : ℕ). is_own_edge f n t.block ≡ true) (sym t.takes.is_from) t.is_own in
      let taken : IsTaken f v c ch t.block i = record {
        takes = subst (λ (o : Option ℕ). IsListed v (option_to_list o)) (sym t.takes.takes) (inl refl);
        own = (own_bits f ch from t.block c).1 (edge, word);
      } in
      phi_found t.block t.takes.phi (slice_get f.blocks t.block) refl t.takes.stands (any_to (IsTaken f v c ch t.block) t.takes.phi.incoming i t.takes.comes taken)

  pub all_taken : HasBit (taken_blocks f numbers ch 0 0 f.blocks) c ↔ TakesOwn f v spans
  all_taken =
      let told = blocks_taken f numbers v c ch a 0 0 f.blocks in
      ((λ h. ⊎_elim (λ z. absurd (no_bit c z)) (λ x. takes_sound x) (told.0 h)), (λ x. told.1 (inr (takes_complete x))))
