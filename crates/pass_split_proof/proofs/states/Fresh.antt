-- Both runs make a block, which stands at its own number.
use Rattle.std.proofs.Common.{◌≡◌, ◌≢◌, ℕ, zero, suc, ◌<◌, ◌≤◌, ◌^◌, ⊎_elim, List, [], ◌∷◌, ◌++◌, length, Option, Some, None, refl, sym, ap, ◌∙◌, subst, arith}
use Rattle.std.specs.Prelude.{slice_get}
use Rattle.std.proofs.lemmas.Bool.{cases_eq, cases_lt}
use Rattle.std.proofs.lemmas.List.{length-replicate}
use Rattle.std.proofs.lemmas.Option.{slice_get_within}
use Rattle.pass_split_proof.proofs.states.Closed.{headed_held, headed_on}
use Rattle.pass_split_proof.proofs.states.OwnHomes.{own_extends}
use Rattle.pass_split_proof.proofs.states.Standing.{open_bytes, twins_stand}
use Rattle.pass_split_proof.specs.states.Instances.{AreFrames, AreLaidFrames, is_given_in, is_held, is_held_in}
use Rattle.pass_split_proof.specs.states.Memories.{AreBeside, AreTwins, AreTwinsAt, IsTwin, homes_of, plain_kind}
use Rattle.pass_proofs.specs.run_framed.Framed.{FramedGiven}
use Rattle.pass_proofs.proofs.run_laws.access.Held.{grown_held}
use Rattle.pass_proofs.proofs.run_laws.memory.Homes.{byte_on}
use Rattle.pass_proofs.proofs.run_laws.memory.Written.{same_some}
use Rattle.run_access_worked.proofs.run_laws_worked.Frames.{blank_byte}
use Rattle.pass_proofs.specs.run_laws.memory.Pointers.{Extends, IsByte}
use Rattle.pass_proofs.specs.run_laws.memory.Standing.{blank_block, byte_of, own_homes}
use Rattle.pass_proofs.specs.run_memory.Memory.{owner_rights}
use Rattle.pass_proofs.specs.run_memory.declared.block.Byte.{Byte}
use Rattle.pass_proofs.specs.run_memory.declared.block.Kind.{Kind}
use Rattle.pass_proofs.specs.run_memory.declared.block.MemoryBlock.{MemoryBlock}
use Rattle.pass_proofs.specs.run_source.declared.state.Instance.{Instance}

-- ---- one block more

pub got_before : (m : List MemoryBlock) (x : MemoryBlock) (b : ℕ) → b < length m
    → slice_get (m ++ x ∷ []) b ≡ slice_get m b
got_before [] x b lt = absurd (omega arith)
got_before (y ∷ m) x zero lt = refl
got_before (y ∷ m) x (suc b) lt = got_before m x b (omega arith)

pub got_last : (m : List MemoryBlock) (x : MemoryBlock) → slice_get (m ++ x ∷ []) (length m) ≡ Some x
got_last [] x = refl
got_last (y ∷ m) x = got_last m x

got_past : (m : List MemoryBlock) (x : MemoryBlock) (b : ℕ) → length m < b → slice_get (m ++ x ∷ []) b ≡ None
got_past [] x zero lt = absurd (omega arith)
got_past [] x (suc b) lt = refl
got_past (y ∷ m) x zero lt = absurd (omega arith)
got_past (y ∷ m) x (suc b) lt = got_past m x b (omega arith)

-- what stands at a number is an old block or the new one
pub new_or_old : (P : Type 0) (m : List MemoryBlock) (x : MemoryBlock) (b : ℕ) (y : MemoryBlock)
    → slice_get (m ++ x ∷ []) b ≡ Some y → (slice_get m b ≡ Some y → P) → (b ≡ length m → y ≡ x → P) → P
new_or_old P m x b y e old new = ⊎_elim
    (λ lt. old (sym (got_before m x b lt) ∙ e))
    (λ ge. ⊎_elim
    (λ is. new is (same_some y x (sym e ∙ ap (slice_get (m ++ x ∷ [])) is ∙ got_last m x)))
    (λ ne. absurd (none (sym (got_past m x b (above b (length m) ge ne)) ∙ e)))
    (cases_eq b (length m)))
    (cases_lt b (length m))
  where
    above : (b k : ℕ) → k ≤ b → b ≢ k → k < b
    above b k ge ne = ⊎_elim (λ lt. lt) (λ le. absurd (ne (omega arith))) (cases_lt k b)

    none : None ≡ Some y → ⊥
    none f = cc

pub grown_length : (m : List MemoryBlock) (x : MemoryBlock) → length (m ++ x ∷ []) ≡ suc (length m)
grown_length [] x = refl
grown_length (y ∷ m) x = ap suc (grown_length m x)

-- ---- twins

pub blank_twin : (size align : ℕ) (kind : Kind) → size < 2 ^ 64 → (kind ≡ Kind.Allocator → align ≡ 16)
    → IsTwin (blank_block size align kind) (blank_block size align (plain_kind kind))
blank_twin size align kind small sixteen = record {
  is = refl;
  life = refl;
  long = refl;
  full = λ left. length-replicate size Byte.Undefined;
  small = small;
  sixteen = sixteen;
}

grown_at : (m n : List MemoryBlock) (x y : MemoryBlock) → length n ≡ length m
    → ((b : ℕ) → AreTwinsAt (slice_get m b) (slice_get n b)) → IsTwin x y → (b : ℕ)
    → AreTwinsAt (slice_get (m ++ x ∷ []) b) (slice_get (n ++ y ∷ []) b)
grown_at [] [] x y long each t zero = t
grown_at [] [] x y long each t (suc b) = tt
grown_at [] (v ∷ n) x y long each t b = absurd (cc)
grown_at (u ∷ m) [] x y long each t b = absurd (cc)
grown_at (u ∷ m) (v ∷ n) x y long each t zero = each 0
grown_at (u ∷ m) (v ∷ n) x y long each t (suc b) = grown_at m n x y (pred long) (λ c. each (suc c)) t b
  where
    pred : suc (length n) ≡ suc (length m) → length n ≡ length m
    pred e = omega arith

module _ (g : FramedGiven) (xs : List Instance) (m n : List MemoryBlock) (size align : ℕ) (kind : Kind)
    (small : size < 2 ^ 64) (sixteen : kind ≡ Kind.Allocator → align ≡ 16) where
  abbrev x : MemoryBlock
  x = blank_block size align kind

  abbrev y : MemoryBlock
  y = blank_block size align (plain_kind kind)

  abbrev source : List MemoryBlock
  source = m ++ x ∷ []

  abbrev target : List MemoryBlock
  target = n ++ y ∷ []

  fresh_held : AreLaidFrames g xs m → (i : ℕ) (z : Instance) → slice_get xs i ≡ Some z → is_held source z ≡ is_held m z
  fresh_held frames i z e
      = ap (λ (o : Option MemoryBlock). is_held_in o z) (got_before m x z.block (frames.known i z e))

  -- frames stay laid: none lies in the new block
  pub fresh_laid : AreLaidFrames g xs m → AreLaidFrames g xs source
  fresh_laid frames = record {
    known = λ i z e. later (length m) (length source) (frames.known i z e) (grown_length m x);
    slots = frames.slots;
    owned = λ i z u e fresh at live kind. frames.owned i z u e fresh (was i z u e at) live kind;
    gone = λ i z u e freed at kind. frames.gone i z u e freed (was i z u e at) kind;
    lies = λ i z u e at. frames.lies i z u e (was i z u e at);
    closed = λ i z u at e held. frames.closed i z u at e (sym (fresh_held frames i z e) ∙ held);
    apart = λ i j z w at ne e f held held'. frames.apart i j z w at ne e f (sym (fresh_held frames i z e)
        ∙ held) (sym (fresh_held frames j w f) ∙ held');
  }
    where
      later : {b : ℕ} → (k l : ℕ) → b < k → l ≡ suc k → b < l
      later k l lt e = omega arith

      was : (i : ℕ) (z : Instance) (u : MemoryBlock) → slice_get xs i ≡ Some z → slice_get source z.block ≡ Some u
          → slice_get m z.block ≡ Some u
      was i z u e at = sym (got_before m x z.block (frames.known i z e)) ∙ at

  pub fresh_frames : AreFrames g xs m n → AreFrames g xs source target
  fresh_frames frames = record {
    laid = fresh_laid frames.laid;
    headed = λ i z e held. headed_on g m source target z
        (ap (λ (o : Option MemoryBlock). is_given_in o z) (got_before m x z.block (frames.laid.known i z e)))
        (headed_held g n target z (λ o most bytes some control h. grown_held owner_rights n
        (y ∷ []) z.block o most bytes h) (frames.headed i z e (sym (fresh_held frames.laid i z e) ∙ held)));
  }

  twins : AreTwins m n → AreTwins source target
  twins t = record {
    each = grown_at m n x y t.long t.each (blank_twin size align kind small sixteen);
    long = grown_length n y ∙ ap suc t.long ∙ sym (grown_length m x);
  }

  homes_on : Extends (homes_of m) (homes_of source)
  homes_on = subst (λ (k : ℕ). Extends (own_homes 0 (length m)) (own_homes 0 k)) (sym (grown_length m x))
      (own_extends (length m))

  -- the memories stand beside each other with it
  pub fresh_beside : AreLaidFrames g xs m → AreBeside g xs m n → AreBeside g xs source target
  fresh_beside frames beside = record {
    twins = twins beside.twins;
    stands = twins_stand g xs source target (twins beside.twins) (fresh_laid frames).lies
        (λ b i u v e f live lt opened. new_or_old (IsByte (homes_of source) (byte_of u i) (byte_of v i)) m x b u e
        (λ at. byte_on (homes_of m) (homes_of source) homes_on (byte_of u i) (byte_of v i)
        (open_bytes g xs m n beside.stands b i u v at (sym (got_before n y b (within b u at)) ∙ f) live lt opened))
        (λ is same. blank_byte (homes_of source) u size i (byte_of v i) (ap (λ (z : MemoryBlock). z.bytes) same)
        (subst (λ (k : ℕ). i < k) (ap (λ (z : MemoryBlock). z.size) same) lt)));
  }
    where
      within : (b : ℕ) (u : MemoryBlock) → slice_get m b ≡ Some u → b < length n
      within b u at = let lt = slice_get_within m b u at in let l = beside.twins.long in omega arith
