-- The frame that a run gives a coroutine is as large as its layout says.
use Rattle.std.proofs.Common.{◌≡◌, ◌⊎◌, inl, inr, ℕ, Bool, true, false, cond, List, [], ◌∷◌, map, refl, if◌then◌else◌}
use Rattle.std.specs.Prelude.{Some, find, unwrap_or, ◌==◌}
use Rattle.pass_proofs.specs.frame_layout.declared.layout.Layout.{Layout}
use Rattle.pass_proofs.specs.run_framed.Framed.{frame_of_layout, layout_of, no_layout}
use Rattle.pass_proofs.specs.run_source_tables.Given.{frame_of}

pub frame_size : (layouts : List Layout) (k : ℕ)
    → (frame_of (map frame_of_layout layouts) k).size ≡ (layout_of layouts k).size
frame_size [] k = refl
frame_size (l ∷ layouts) k = on (l.coroutine == k) (frame_size layouts k)
  where
    on : (b : Bool) → (frame_of (map frame_of_layout layouts) k).size ≡ (layout_of layouts k).size
        → (if b then frame_of_layout l else frame_of (map frame_of_layout layouts) k).size
        ≡ (unwrap_or (cond b (Some l) (find (λ (x : Layout). x.coroutine == k) layouts)) (no_layout k)).size
    on true h = refl
    on false h = h

-- where there is no layout, it is aligned to 1
pub frame_align : (layouts : List Layout) (k : ℕ)
    → ((frame_of (map frame_of_layout layouts) k).align ≡ (layout_of layouts k).align)
    ⊎ ((layout_of layouts k).align ≡ 1)
frame_align [] k = inr refl
frame_align (l ∷ layouts) k = on (l.coroutine == k) (frame_align layouts k)
  where
    on : (b : Bool) → ((frame_of (map frame_of_layout layouts) k).align ≡ (layout_of layouts k).align)
        ⊎ ((layout_of layouts k).align ≡ 1)
        → ((if b then frame_of_layout l else frame_of (map frame_of_layout layouts) k).align
        ≡ (unwrap_or (cond b (Some l) (find (λ (x : Layout). x.coroutine == k) layouts)) (no_layout k)).align)
        ⊎ ((unwrap_or (cond b (Some l) (find (λ (x : Layout). x.coroutine == k) layouts)) (no_layout k)).align ≡ 1)
    on true h = inl refl
    on false h = h
