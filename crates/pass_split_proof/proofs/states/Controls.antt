-- The part writes into the control bytes of one frame: what stands stays, and so do the control bytes of all others.
use Rattle.std.proofs.Common.{◌≡◌, ◌≢◌, ℕ, ◌+◌, ◌-◌, ◌<◌, ◌≤◌, inl, inr, ⊎_elim, true, List, length, Some, sym, ap, ◌∙◌, subst, arith}
use Rattle.std.specs.Prelude.{slice_get}
use Rattle.std.proofs.lemmas.Bool.{cases_eq, cases_lt, false≢true}
use Rattle.std.proofs.lemmas.Option.{slice_get_within}
use Rattle.pass_split_proof.proofs.states.Closed.{MovesControl}
use Rattle.pass_split_proof.proofs.states.OwnHomes.{own_home}
use Rattle.pass_split_proof.proofs.states.Written.{written_apart}
use Rattle.pass_split_proof.specs.states.Instances.{AreLaidFrames, IsControl, is_held}
use Rattle.pass_split_proof.specs.states.Memories.{AreBeside, homes_of}
use Rattle.pass_proofs.specs.run_framed.Framed.{FramedGiven, frame_rights}
use Rattle.pass_proofs.proofs.run_laws.access.Done.{other_held, write_away}
use Rattle.pass_proofs.proofs.run_laws.memory.Itself.{owner_rights_fit}
use Rattle.pass_proofs.specs.run_laws.access.Lines.{AreDisjoint, Holds, refilled_at}
use Rattle.pass_proofs.specs.run_laws.memory.Pointers.{Home, home_of}
use Rattle.pass_proofs.specs.run_laws.memory.Standing.{IsAway}
use Rattle.run_access_worked.proofs.run_laws_worked.Frames.{frame_rights_fit}
use Rattle.pass_proofs.specs.run_memory.Memory.{is_live, owner_rights}
use Rattle.pass_proofs.specs.run_memory.declared.block.Byte.{Byte}
use Rattle.pass_proofs.specs.run_memory.declared.block.MemoryBlock.{MemoryBlock}
use Rattle.pass_proofs.specs.run_source.declared.state.Instance.{Instance}

-- two ranges of which no byte is one of both
pub apart_disjoint : (b o len c p len' : ℕ) → 0 < len → 0 < len' → ((i j : ℕ) → i < len → j < len' → c ≡ b
    → o + i ≡ p + j → ⊥) → AreDisjoint b o len c p len'
apart_disjoint b o len c p len' some some' apart = ⊎_elim
    (λ same. inr (⊎_elim
    (λ lt. ⊎_elim
    (λ over. absurd (let e : o + (p - o) ≡ p + 0 = omega arith in apart (p - o) 0 (omega arith) some' same e))
    (λ le. inr le)
    (cases_lt p (o + len)))
    (λ ge. ⊎_elim
    (λ over. absurd (let e : o + 0 ≡ p + (o - p) = omega arith in apart 0 (o - p) some (omega arith) same e))
    (λ le. inl le)
    (cases_lt o (p + len')))
    (cases_lt o p)))
    (λ ne. inl ne)
    (cases_eq c b)

module _ (g : FramedGiven) (xs : List Instance) (m n : List MemoryBlock) (beside : AreBeside g xs m n)
    (frames : AreLaidFrames g xs m)
    (i : ℕ) (x : Instance) (e : slice_get xs i ≡ Some x) (held : is_held m x ≡ true) (o most : ℕ) (old new : List Byte)
    (holds : Holds owner_rights n x.block o most old) (long : length new ≡ length old) (some : 0 < length old)
    (control : (k : ℕ) → k < length old → IsControl g x x.block (o + k)) where
  abbrev after : List MemoryBlock
  after = refilled_at n x.block o new

  away : (a : ℕ) (z : MemoryBlock) → slice_get m a ≡ Some z → is_live z.life ≡ true
      → IsAway (frame_rights g xs) (homes_of m) a z x.block o (length old)
  away a z there live at j lt opened = ⊎_elim
      (λ below. inl (subst (λ (h : Home). h.offset + j < o) (sym home) (start j o below)))
      (λ from. ⊎_elim
      (λ inside. absurd (false≢true (sym opened ∙ closed from inside)))
      (λ above. inr (subst (λ (h : Home). o + length old ≤ h.offset + j) (sym home) (start' j (o + length old) above)))
      (cases_lt j (o + length old)))
      (cases_lt j o)
    where
      home : home_of (homes_of m) a ≡ record { block = a; offset = 0; is_seen = true }
      home = own_home (length m) a (slice_get_within m a z there)

      same : a ≡ x.block
      same = ap (λ (h : Home). h.block) (sym home) ∙ at

      start : (j o : ℕ) → j < o → 0 + j < o
      start j o lt = omega arith

      start' : (j o : ℕ) → o ≤ j → o ≤ 0 + j
      start' j o le = omega arith

      closed : o ≤ j → j < o + length old → (frame_rights g xs).is_closed a z j 1 ≡ true
      closed from below = subst (λ (k : ℕ). (frame_rights g xs).is_closed k z j 1 ≡ true) (sym same)
          (frames.closed i x z j e held (subst (IsControl g x x.block) (rest o j from)
          (control (j - o) (less o j (length old) from below))))
        where
          rest : (o j : ℕ) → o ≤ j → o + (j - o) ≡ j
          rest o j le = omega arith

          less : (o j k : ℕ) → o ≤ j → j < o + k → j - o < k
          less o j k le lt = omega arith

  pub control_beside : AreBeside g xs m after
  control_beside = record {
    twins = written_apart m n x.block o most old new beside.twins holds long;
    stands = write_away (frame_rights g xs) owner_rights (homes_of m) m n x.block o most old new
        (frame_rights_fit g xs) owner_rights_fit beside.stands holds long away;
  }

  pub others_move : (j : ℕ) (z : Instance) → j ≢ i → slice_get xs j ≡ Some z → is_held m z ≡ true
      → MovesControl g n after z
  others_move j z ne f held' p much bytes any control' h
      = other_held owner_rights n z.block p much x.block o most bytes old new owner_rights_fit h holds long
      (apart_disjoint x.block o (length new) z.block p (length bytes) (subst (λ k. 0 < k) (sym long) some) any
      (λ a b lt lt' same meet. frames.apart i j x z (o + a) (λ eq. ne (sym eq)) e f held held'
      (control a (subst (λ k. a < k) long lt)) (subst (λ (q : ℕ × ℕ). IsControl g z q.0 q.1)
      (λ l. (same l, sym meet l)) (control' b lt'))))
