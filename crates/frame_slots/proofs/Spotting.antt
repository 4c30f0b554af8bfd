-- The uses of slots, at points and on edges.
use Rattle.std.proofs.Common.{◌≡◌, ℕ, zero, suc, ◌+◌, ◌<◌, Bool, true, false, List, [], ◌∷◌, ◌++◌, length, Option, Some, None, refl, sym, ap, ◌∙◌, subst, ⊎_elim, inl, inr, arith}
use Rattle.std.specs.Prelude.{◌↔◌, ◌⊎◌, ◌==◌, nat_lt, slice_get}
use Rattle.std.proofs.lemmas.Bool.{false≢true, lt-ltb, ltb-true}
use Rattle.std.proofs.lemmas.Option.{slice_get_within}
use Rattle.flow_bits.specs.Bits.{HasBit}
use Rattle.rule_window_values.specs.rule_uses.Uses.{local_of}
use Rattle.flow_solver.specs.Paths.{IsListed}
use Rattle.ir_model.specs.Names.{position_of}
use Rattle.ir_model.specs.declared.instr.Incoming.{Incoming}
use Rattle.ir_model.specs.declared.instr.Phi.{Phi}
use Rattle.ir_model.specs.declared.module.Block.{Block}
use Rattle.ir_model.specs.declared.module.Function.{Function}
use Rattle.ir_model.specs.declared.operand.Operand.{Operand}
use Rattle.ir_paths.proofs.Search.{eq_from}
use Rattle.ir_paths.specs.declared.point.Point.{Point}
use Rattle.frame_slots.proofs.Bits.{no_bit}
use Rattle.frame_slots.proofs.Telling.{address_of, has_address, use_complete, use_sound}
use Rattle.frame_slots.specs.Spots.{IsUse}
use Rattle.frame_slots.specs.Spots.Spot.{At, On}
use Rattle.frame_slots.specs.Told.{AreAddressWords}
use Rattle.frame_slots.specs.Words.{edge_unless, edge_words, incoming_uses, name_word, phi_uses, phis_uses, use_if, use_on, use_rows, uses_from, word_at_point}
use Rattle.frame_slots.specs.declared.edge.EdgeWord.{EdgeWord}
use Rattle.frame_slots.specs.declared.edge.PhiUse.{PhiUse}
use Rattle.rule_window_values.specs.Kept.{TakesFrom, phis_at, phis_in}

-- ---- lists

front : {X : Type 0} (x : X) (xs ys : List X) → IsListed x xs → IsListed x (xs ++ ys)
front x [] ys h = absurd h
front x (y ∷ xs) ys (inl e) = inl e
front x (y ∷ xs) ys (inr later) = inr (front x xs ys later)

back : {X : Type 0} (x : X) (xs ys : List X) → IsListed x ys → IsListed x (xs ++ ys)
back x [] ys h = h
back x (y ∷ xs) ys h = inr (back x xs ys h)

parts : {X : Type 0} (x : X) (xs ys : List X) → IsListed x (xs ++ ys) → IsListed x xs ⊎ IsListed x ys
parts x [] ys h = inr h
parts x (y ∷ xs) ys (inl e) = inl (inl e)
parts x (y ∷ xs) ys (inr later) = ⊎_elim (λ a. inl (inr a)) (λ b. inr b) (parts x xs ys later)

-- ---- what phis take

abbrev phi_use : ℕ → ℕ → ℕ → PhiUse
phi_use from to v = record { from = from; to = to; value = v }

-- it is taken from one of these
record IsIncoming (f : Function) (to : ℕ) (is : List Incoming) (u : PhiUse) : Type 0 where
  pub incoming : Incoming
  pub comes : IsListed incoming is
  pub is_from : position_of f incoming.from ≡ u.from
  pub is_to : u.to ≡ to
  pub takes : local_of incoming.value ≡ Some u.value
  pub is_block : u.from < length f.blocks

use_is : (from to : ℕ) (x : Operand) (u : PhiUse) → IsListed u (use_on from to x) → (from ≡ u.from) × ((u.to ≡ to) × (local_of x ≡ Some u.value))
use_is from to (Operand.Local v) u (inl e) = (ap (λ (w : PhiUse). w.from) (sym e), (ap (λ (w : PhiUse). w.to) e, ap (λ (w : PhiUse). Some w.value) (sym e)))
use_is from to (Operand.Local v) u (inr none) = absurd none
use_is from to (Operand.Global v) u h = absurd h
use_is from to (Operand.Number v) u h = absurd h
use_is from to Operand.True u h = absurd h
use_is from to Operand.False u h = absurd h
use_is from to Operand.Null u h = absurd h
use_is from to Operand.None u h = absurd h
use_is from to Operand.Poison u h = absurd h

record IsIf (f : Function) (b : Bool) (from to : ℕ) (x : Operand) (u : PhiUse) : Type 0 where
  pub passes : b ≡ true
  pub is_listed : IsListed u (use_on from to x)

if_is : (f : Function) (b : Bool) (from to : ℕ) (x : Operand) (u : PhiUse) → IsListed u (use_if b from to x) → IsIf f b from to x u
if_is f true from to x u h = record { passes = refl; is_listed = h }
if_is f false from to x u h = absurd h

if_has : (b : Bool) (from to : ℕ) (x : Operand) (u : PhiUse) → b ≡ true → IsListed u (use_on from to x) → IsListed u (use_if b from to x)
if_has true from to x u e h = h
if_has false from to x u e h = absurd (false≢true e)

incoming_is : (f : Function) (to : ℕ) (is : List Incoming) (u : PhiUse) → IsListed u (incoming_uses f to is) → IsIncoming f to is u
incoming_is f to [] u h = absurd h
incoming_is f to (i ∷ is) u h = ⊎_elim
    (λ here.
    let passed = if_is f (nat_lt (position_of f i.from) (length f.blocks)) (position_of f i.from) to i.value u here in
    let r = use_is (position_of f i.from) to i.value u passed.is_listed in
    record {
      incoming = i;
      comes = inl refl;
      is_from = r.0;
      is_to = r.1.0;
      takes = r.1.1;
      is_block = subst (λ (n : ℕ). n < length f.blocks) r.0 (ltb-true (position_of f i.from) (length f.blocks) passed.passes);
    })
    (λ later. let r = incoming_is f to is u later in record { incoming = r.incoming; comes = inr r.comes; is_from = r.is_from; is_to = r.is_to; takes = r.takes; is_block = r.is_block })
    (parts u (use_if (nat_lt (position_of f i.from) (length f.blocks)) (position_of f i.from) to i.value) (incoming_uses f to is) h)

record IsOfPhi (f : Function) (to : ℕ) (ps : List Phi) (u : PhiUse) : Type 0 where
  pub phi : Phi
  pub stands : IsListed phi ps
  pub is_incoming : IsIncoming f to phi.incoming u

phi_is : (f : Function) (to : ℕ) (ps : List Phi) (u : PhiUse) → IsListed u (phis_uses f to ps) → IsOfPhi f to ps u
phi_is f to [] u h = absurd h
phi_is f to (p ∷ ps) u h = ⊎_elim
    (λ here. record { phi = p; stands = inl refl; is_incoming = incoming_is f to p.incoming u here })
    (λ later. let r = phi_is f to ps u later in record { phi = r.phi; stands = inr r.stands; is_incoming = r.is_incoming })
    (parts u (incoming_uses f to p.incoming) (phis_uses f to ps) h)

record IsOfBlock (f : Function) (at : ℕ) (bs : List Block) (u : PhiUse) : Type 0 where
  pub place : ℕ
  pub block : Block
  pub is_block : slice_get bs place ≡ Some block
  pub is_of_phi : IsOfPhi f (at + place) block.phis u

block_is : (f : Function) (at : ℕ) (bs : List Block) (u : PhiUse) → IsListed u (uses_from f at bs) → IsOfBlock f at bs u
block_is f at [] u h = absurd h
block_is f at (b ∷ bs) u h = ⊎_elim
    (λ here. let z : at ≡ at + 0 = omega arith in record { place = 0; block = b; is_block = refl; is_of_phi = subst (λ (n : ℕ). IsOfPhi f n b.phis u) z (phi_is f at b.phis u here) })
    (λ later.
    let r = block_is f (at + 1) bs u later in
    let z : at + 1 + r.place ≡ at + suc r.place = omega arith in
    record { place = suc r.place; block = r.block; is_block = r.is_block; is_of_phi = subst (λ (n : ℕ). IsOfPhi f n r.block.phis u) z r.is_of_phi })
    (parts u (phis_uses f at b.phis) (uses_from f (at + 1) bs) h)

-- what is listed is taken by a phi of a block
pub phi_use_sound : (f : Function) (u : PhiUse) → IsListed u (phi_uses f) → TakesFrom f u.value u.from u.to × (u.from < length f.blocks) × (u.to < length f.blocks)
phi_use_sound f u h =
    let r = block_is f 0 f.blocks u h in
    let z : 0 + r.place ≡ r.place = omega arith in
    let p = r.is_of_phi in
    let i = p.is_incoming in
    let to : u.to ≡ r.place = i.is_to ∙ z in
    let small = slice_get_within f.blocks r.place r.block r.is_block in (
      record {
        phi = p.phi;
        incoming = i.incoming;
        stands = subst (λ (ps : List Phi). IsListed p.phi ps) (ap phis_in (sym r.is_block) ∙ ap (phis_at f) (sym to)) p.stands;
        comes = i.comes;
        is_from = i.is_from;
        takes = i.takes;
      },
      i.is_block,
      omega (arith, to, small),
    )

on_use : (from to : ℕ) (x : Operand) (v : ℕ) → local_of x ≡ Some v → IsListed (phi_use from to v) (use_on from to x)
on_use from to (Operand.Local u) v e = let same : v ≡ u = cc in inl (ap (phi_use from to) same)
on_use from to (Operand.Global n) v e = absurd (cc)
on_use from to (Operand.Number n) v e = absurd (cc)
on_use from to Operand.True v e = absurd (cc)
on_use from to Operand.False v e = absurd (cc)
on_use from to Operand.Null v e = absurd (cc)
on_use from to Operand.None v e = absurd (cc)
on_use from to Operand.Poison v e = absurd (cc)

in_incoming : (f : Function) (to : ℕ) (is : List Incoming) (i : Incoming) (v : ℕ) → position_of f i.from < length f.blocks → IsListed i is → local_of i.value ≡ Some v → IsListed (phi_use (position_of f i.from) to v) (incoming_uses f to is)
in_incoming f to [] i v lt h e = absurd h
in_incoming f to (j ∷ is) i v lt (inl same) e =
    front (phi_use (position_of f i.from) to v) (use_if (nat_lt (position_of f j.from) (length f.blocks)) (position_of f j.from) to j.value) (incoming_uses f to is)
    (subst (λ (x : Incoming). IsListed (phi_use (position_of f i.from) to v) (use_if (nat_lt (position_of f x.from) (length f.blocks)) (position_of f x.from) to x.value)) same
    (if_has (nat_lt (position_of f i.from) (length f.blocks)) (position_of f i.from) to i.value (phi_use (position_of f i.from) to v) (lt-ltb (position_of f i.from) (length f.blocks) lt) (on_use (position_of f i.from) to i.value v e)))
in_incoming f to (j ∷ is) i v lt (inr later) e =
    back (phi_use (position_of f i.from) to v) (use_if (nat_lt (position_of f j.from) (length f.blocks)) (position_of f j.from) to j.value) (incoming_uses f to is) (in_incoming f to is i v lt later e)

in_phis : (f : Function) (to : ℕ) (ps : List Phi) (p : Phi) (u : PhiUse) → IsListed p ps → IsListed u (incoming_uses f to p.incoming) → IsListed u (phis_uses f to ps)
in_phis f to [] p u h e = absurd h
in_phis f to (q ∷ ps) p u (inl same) e = front u (incoming_uses f to q.incoming) (phis_uses f to ps) (subst (λ (x : Phi). IsListed u (incoming_uses f to x.incoming)) same e)
in_phis f to (q ∷ ps) p u (inr later) e = back u (incoming_uses f to q.incoming) (phis_uses f to ps) (in_phis f to ps p u later e)

in_blocks : (f : Function) (at : ℕ) (bs : List Block) (k : ℕ) (b : Block) (u : PhiUse) → slice_get bs k ≡ Some b → IsListed u (phis_uses f (at + k) b.phis) → IsListed u (uses_from f at bs)
in_blocks f at [] k b u e h = absurd (cc)
in_blocks f at (x ∷ bs) zero b u e h =
    let same : b ≡ x = cc in
    let z : at + 0 ≡ at = omega arith in
    front u (phis_uses f at x.phis) (uses_from f (at + 1) bs)
    (subst (λ (y : Block). IsListed u (phis_uses f at y.phis)) same (subst (λ (n : ℕ). IsListed u (phis_uses f n b.phis)) z h))
in_blocks f at (x ∷ bs) (suc k) b u e h =
    let z : at + suc k ≡ at + 1 + k = omega arith in
    back u (phis_uses f at x.phis) (uses_from f (at + 1) bs) (in_blocks f (at + 1) bs k b u e (subst (λ (n : ℕ). IsListed u (phis_uses f n b.phis)) z h))

-- what a phi of a block takes is listed
pub phi_use_complete : (f : Function) (v from to : ℕ) → from < length f.blocks → TakesFrom f v from to → IsListed (phi_use from to v) (phi_uses f)
phi_use_complete f v from to lt t = by (slice_get f.blocks to) refl t.stands
  where
    taken : IsListed (phi_use from to v) (incoming_uses f to t.phi.incoming)
    taken = subst (λ (n : ℕ). IsListed (phi_use n to v) (incoming_uses f to t.phi.incoming)) t.is_from
        (in_incoming f to t.phi.incoming t.incoming v (subst (λ (n : ℕ). n < length f.blocks) (sym t.is_from) lt) t.comes t.takes)

    by : (o : Option Block) → slice_get f.blocks to ≡ o → IsListed t.phi (phis_in o) → IsListed (phi_use from to v) (phi_uses f)
    by None e stands = absurd stands
    by (Some b) e stands =
        let z : to ≡ 0 + to = omega arith in
        in_blocks f 0 f.blocks to b (phi_use from to v) e (subst (λ (n : ℕ). IsListed (phi_use from to v) (phis_uses f n b.phis)) z (in_phis f to b.phis t.phi (phi_use from to v) stands taken))

-- ---- words of edges

abbrev edge_word : ℕ → ℕ → ℕ → EdgeWord
edge_word from to word = record { from = from; to = to; word = word }

record IsOfUse (words : List ℕ) (us : List PhiUse) (e : EdgeWord) : Type 0 where
  pub use_of : PhiUse
  pub is_listed : IsListed use_of us
  pub is : e ≡ edge_word use_of.from use_of.to (name_word words use_of.value)

unless_is : (b : Bool) (from to word : ℕ) (e : EdgeWord) → IsListed e (edge_unless b from to word) → e ≡ edge_word from to word
unless_is true from to word e h = absurd h
unless_is false from to word e (inl same) = same
unless_is false from to word e (inr none) = absurd none

edge_is : (words : List ℕ) (us : List PhiUse) (e : EdgeWord) → IsListed e (edge_words words us) → IsOfUse words us e
edge_is words [] e h = absurd h
edge_is words (u ∷ us) e h = ⊎_elim
    (λ here. record { use_of = u; is_listed = inl refl; is = unless_is (name_word words u.value == 0) u.from u.to (name_word words u.value) e here })
    (λ later. let r = edge_is words us e later in record { use_of = r.use_of; is_listed = inr r.is_listed; is = r.is })
    (parts e (edge_unless (name_word words u.value == 0) u.from u.to (name_word words u.value)) (edge_words words us) h)

unless_has : (b : Bool) (from to word c : ℕ) → (word == 0) ≡ b → HasBit word c → IsListed (edge_word from to word) (edge_unless b from to word)
unless_has true from to word c e h = absurd (no_bit c (subst (λ (w : ℕ). HasBit w c) (eq_from word 0 e) h))
unless_has false from to word c e h = inl refl

in_edges : (words : List ℕ) (us : List PhiUse) (u : PhiUse) (c : ℕ) → IsListed u us → HasBit (name_word words u.value) c → IsListed (edge_word u.from u.to (name_word words u.value)) (edge_words words us)
in_edges words [] u c h has = absurd h
in_edges words (x ∷ us) u c (inl same) has =
    front (edge_word u.from u.to (name_word words u.value)) (edge_unless (name_word words x.value == 0) x.from x.to (name_word words x.value)) (edge_words words us)
    (subst (λ (y : PhiUse). IsListed (edge_word u.from u.to (name_word words u.value)) (edge_unless (name_word words y.value == 0) y.from y.to (name_word words y.value))) same
    (unless_has (name_word words u.value == 0) u.from u.to (name_word words u.value) c refl has))
in_edges words (x ∷ us) u c (inr later) has =
    back (edge_word u.from u.to (name_word words u.value)) (edge_unless (name_word words x.value == 0) x.from x.to (name_word words x.value)) (edge_words words us) (in_edges words us u c later has)

-- the edges lead to blocks
pub edges_within : (words : List ℕ) (f : Function) (e : EdgeWord) → IsListed e (edge_words words (phi_uses f)) → e.to < length f.blocks
edges_within words f e h =
    let r = edge_is words (phi_uses f) e h in
    subst (λ (n : ℕ). n < length f.blocks) (ap (λ (x : EdgeWord). x.to) (sym r.is)) (phi_use_sound f r.use_of r.is_listed).2

-- and leave blocks
pub edges_leave : (words : List ℕ) (f : Function) (e : EdgeWord) → IsListed e (edge_words words (phi_uses f)) → e.from < length f.blocks
edges_leave words f e h =
    let r = edge_is words (phi_uses f) e h in
    subst (λ (n : ℕ). n < length f.blocks) (ap (λ (x : EdgeWord). x.from) (sym r.is)) (phi_use_sound f r.use_of r.is_listed).1

-- ---- uses

-- an edge's word has the question
pub record HasEdge (edges : List EdgeWord) (from to c : ℕ) : Type 0 where
  pub word : ℕ
  pub is_listed : IsListed (edge_word from to word) edges
  pub has : HasBit word c

module _ (f : Function) (slots words : List ℕ) (are : AreAddressWords f slots words) (c slot : ℕ) (lt : c < 64) (is : slice_get slots c ≡ Some slot) where
  -- the rows have the question at the uses of its slot
  pub use_told : (p : Point) → HasBit (word_at_point (use_rows words f) p) c ↔ IsUse f slot (At p)
  use_told p = (
    λ h. let one = use_sound words f p c h in record { address = one.name; is_address = address_of f slots words are c slot one.name lt is one.has; uses = one.uses },
    λ u. use_complete words f p c u.address (has_address f slots words are c slot u.address lt is u.is_address) u.uses,
  )

  edge_sound : (from to : ℕ) → HasEdge (edge_words words (phi_uses f)) from to c → IsUse f slot (On from to)
  edge_sound from to h =
      let r = edge_is words (phi_uses f) (edge_word from to h.word) h.is_listed in
      let sound = phi_use_sound f r.use_of r.is_listed in
      let takes = sound.0 in
      let from_is : r.use_of.from ≡ from = ap (λ (e : EdgeWord). e.from) (sym r.is) in
      let to_is : r.use_of.to ≡ to = ap (λ (e : EdgeWord). e.to) (sym r.is) in
      record {
        address = r.use_of.value;
        is_address = address_of f slots words are c slot r.use_of.value lt is (subst (λ (w : ℕ). HasBit w c) (ap (λ (e : EdgeWord). e.word) r.is) h.has);
        uses = (subst (λ (n : ℕ). n < length f.blocks) from_is sound.1, subst (λ (n : ℕ). TakesFrom f r.use_of.value from n) to_is (subst (λ (n : ℕ). TakesFrom f r.use_of.value n r.use_of.to) from_is takes));
      }

  edge_complete : (from to : ℕ) → IsUse f slot (On from to) → HasEdge (edge_words words (phi_uses f)) from to c
  edge_complete from to u =
      let has = has_address f slots words are c slot u.address lt is u.is_address in
      record {
        word = name_word words u.address;
        is_listed = in_edges words (phi_uses f) (phi_use from to u.address) c (phi_use_complete f u.address from to u.uses.0 u.uses.1) has;
        has = has;
      }

  -- the words of edges have it where phis use its slot
  pub edge_told : (from to : ℕ) → HasEdge (edge_words words (phi_uses f)) from to c ↔ IsUse f slot (On from to)
  edge_told from to = (edge_sound from to, edge_complete from to)
