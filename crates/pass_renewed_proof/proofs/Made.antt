-- Both make a slot, which lives in the target from then on.
use Rattle.std.proofs.Common.{◌≡◌, ◌≢◌, ℕ, zero, suc, ◌^◌, ◌<◌, ◌≤◌, true, false, List, [], ◌∷◌, ◌++◌, length, Some, None, refl, sym, ap, ◌∙◌, subst, arith, length-append}
use Rattle.std.proofs.lemmas.List.{length-replicate}
use Rattle.std.specs.Prelude.{slice_get}
use Rattle.pass_kept_proof.specs.run_memory.Memory.{is_live, same_kind}
use Rattle.pass_kept_proof.specs.run_memory.declared.block.Byte.{Byte}
use Rattle.pass_kept_proof.specs.run_memory.declared.block.Kind.{Kind}
use Rattle.pass_kept_proof.specs.run_memory.declared.block.MemoryBlock.{MemoryBlock}
use Rattle.run_laws.proofs.memory.Homes.{append_extends}
use Rattle.run_laws.proofs.memory.Written.{same_some}
use Rattle.run_laws.specs.memory.Pointers.{Home, home_of}
use Rattle.run_laws.specs.memory.Standing.{blank_block}
use Rattle.pass_renewed_proof.proofs.Places.{grown, seated}
use Rattle.pass_renewed_proof.specs.Places.{AreStanding, IsBlank, IsReady}
use Rattle.run_laws.specs.embedded.Making.{whole_home}

pub get_last : {A : Type 0} (xs : List A) (x : A) → slice_get (xs ++ x ∷ []) (length xs) ≡ Some x
get_last [] x = refl
get_last (y ∷ xs) x = get_last xs x

pub get_past : {A : Type 0} (xs : List A) (k : ℕ) → length xs ≤ k → slice_get xs k ≡ None
get_past [] k le = refl
get_past (x ∷ xs) zero le = absurd (omega arith)
get_past (x ∷ xs) (suc k) le = get_past xs k (omega arith)

pub get_other : {A : Type 0} (xs : List A) (x : A) (k : ℕ) → k ≢ length xs → slice_get (xs ++ x ∷ []) k ≡ slice_get xs k
get_other [] x zero ne = absurd (ne refl)
get_other [] x (suc k) ne = refl
get_other (y ∷ xs) x zero ne = refl
get_other (y ∷ xs) x (suc k) ne = get_other xs x k (λ e. ne (ap suc e))

pub get_within : {A : Type 0} (xs : List A) (k : ℕ) (x : A) → slice_get xs k ≡ Some x → k < length xs
get_within [] k x e = absurd (cc)
get_within (y ∷ xs) zero x e = omega arith
get_within (y ∷ xs) (suc k) x e = let h = get_within xs k x e in omega arith

pub get_none : {A : Type 0} (xs : List A) (k : ℕ) → slice_get xs k ≡ None → k < length xs → ⊥
get_none [] k e lt = absurd (omega arith)
get_none (x ∷ xs) zero e lt = absurd (cc)
get_none (x ∷ xs) (suc k) e lt = get_none xs k e (omega arith)

pub get_there : {A : Type 0} (xs : List A) (k : ℕ) → k < length xs → (x : A) × (slice_get xs k ≡ Some x)
get_there [] k lt = absurd (omega arith)
get_there (x ∷ xs) zero lt = (x, refl)
get_there (x ∷ xs) (suc k) lt = get_there xs k (omega arith)

pub home_last : (homes : List Home) (h : Home) → home_of (homes ++ h ∷ []) (length homes) ≡ h
home_last [] h = refl
home_last (g ∷ homes) h = home_last homes h

pub home_other : (homes : List Home) (h : Home) (d : ℕ) → d ≢ length homes
    → home_of (homes ++ h ∷ []) d ≡ home_of homes d
home_other [] h zero ne = absurd (ne refl)
home_other [] h (suc d) ne = refl
home_other (g ∷ homes) h zero ne = refl
home_other (g ∷ homes) h (suc d) ne = home_other homes h d (λ e. ne (ap suc e))

module _ (homes : List Home) (m n : List MemoryBlock) (x : MemoryBlock) (kind : Kind) (known : length homes ≡ length m) (small : x.size < 2 ^ 64) (blank : IsBlank x) (writable : same_kind kind Kind.Constant ≡ false) (there : (b : ℕ) → (home_of homes b).is_seen ≡ true → (y : MemoryBlock) × (slice_get n (home_of homes b).block ≡ Some y)) where
  abbrev y : MemoryBlock
  y = blank_block x.size x.align kind

  pub made_together : AreStanding homes m n → AreStanding (homes ++ whole_home (length n) ∷ []) (m ++ x ∷ []) (n ++ y ∷ [])
  made_together st =
      seated homes (homes ++ whole_home (length n) ∷ []) m (m ++ x ∷ []) (n ++ y ∷ []) (length m) (length n) y
      (append_extends homes (whole_home (length n) ∷ []))
      longer inside
      (λ d ne. home_other homes (whole_home (length n)) d (λ e. ne (e ∙ known)))
      (ap (home_of (homes ++ whole_home (length n) ∷ [])) (sym known) ∙ home_last homes (whole_home (length n)))
      (get_last n y) refl small
      (λ d ne. get_other m x d ne)
      (λ z at. let is : x ≡ z = same_some x z (sym (get_last m x) ∙ at) in subst (λ (u : MemoryBlock). u.size ≤ x.size) is (omega arith))
      (λ z at live.
      let is : x ≡ z = same_some x z (sym (get_last m x) ∙ at) in
      subst (λ (u : MemoryBlock). IsBlank u × IsReady (n ++ y ∷ []) (length n) u) is
      (blank, record { block = y; there = get_last n y; live = refl; owner = refl; whole = length-replicate x.size Byte.Undefined; room = omega arith; small = small; align = refl; writable = writable }))
      (record { others = λ d z ne at live e. apart d z at live e })
      (grown homes m n (y ∷ []) there st)
    where
      longer : length homes ≤ length (homes ++ whole_home (length n) ∷ [])
      longer = let e = length-append homes (whole_home (length n) ∷ []) in omega arith

      inside : length m < length (homes ++ whole_home (length n) ∷ [])
      inside = let e = length-append homes (whole_home (length n) ∷ []) in omega arith

      apart : (d : ℕ) (z : MemoryBlock) → slice_get m d ≡ Some z → is_live z.life ≡ true → (home_of homes d).block ≡ length n → ⊥
      apart d z at live e =
          let s = st.memory.each d z at live in
          let lt = get_within n (home_of homes d).block s.block s.there in
          omega arith
