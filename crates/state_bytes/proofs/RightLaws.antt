-- What is tested of the bytes of a planner or a model, and of their length, is whether refusal 1 has nothing against them.
-- Assumes nothing.
use Prim.Native.Nat.{ℕ, ◌+◌, ◌*◌, ◌<◌, ◌≤◌}
use mathlib.Core.Path.{◌≡◌, ◌∙◌}
use mathlib.Core.Bool.{Bool, true, false, not, ◌&&◌, and_assoc, and_comm, and-true}
use mathlib.Core.List.{List}
use native.Mathlib.Omega.{arith}
use borrow.Author.Tests.{eqb-true, eq-eqb, ne_eqb, ltb-true, lt-ltb}
use lib.Dec.{eqb, ltb}
use lib.ListN.{length, get_or}
use Rattle.num.specs.Bytes.{number, part, Bytes}
use Rattle.num.proofs.ByteLaws.{number-part}
use Rattle.num.proofs.PartLaws.{number_fits}
use Rattle.settings.specs.declared.Settings.{Settings}
use Rattle.settings.specs.Instants.{is_instant}
use Rattle.spec_rules.specs.Neighbour.{bank_count, context_of}
use Rattle.spec_rules.proofs.Bools.{iff-eq, and_left, and_right}
use Rattle.spec_state.specs.Valid.{channel_valid}
use Rattle.spec_state.specs.ChannelBytes.{instant_of, channel_in, zero_part, channel_spare}
use Rattle.spec_plan.specs.Planner.{planner_valid}
use Rattle.spec_plan.specs.PlannerBytes.{planner_length, planner_in, planner_right}
use Rattle.spec_model.specs.Model.{model_valid}
use Rattle.spec_model.specs.ModelBytes.{model_length, model_in, model_right}
use Rattle.state_bytes.specs.Form.Tested.{all_stored, tags_right, buffer_right, channel_tested, planner_fields, model_fields}
use Rattle.state_bytes.proofs.NumberLaws.{instant-stored, below_word}
use Rattle.state_bytes.proofs.TestedLaws.{and-shift, none-refreshed, model-tags, planner-tags}
use Rattle.state_bytes.proofs.BufferLaws.{none-closes, channel-as}

-- ---- planners

module _ (s : Settings) (b : List ℕ) where
  planner-fields : 768 ≤ length b
      → planner_fields b ≡ (is_instant (instant_of (number (part b 752 4))) && (ltb (number (part b 756 2)) 32 && zero_part b 758 2)) && zero_part b 764 4
  planner-fields l =
      rw (
        instant-stored (number (part b 752 4)),
        number-part b 756 2 2 (omega arith),
        below_word (number (part b 756 2)) (number (part b 758 2)) 32 (omega arith),
      )

  planner-shuffle : (n r z u p v e k d : Bool) → ((n && (r && z)) && u) && ((p && v) && (e && (k && d))) ≡ (p && (z && u)) && (v && (e && (k && (d && (n && (r && (true && true)))))))
  planner-shuffle n r z u p v e k d = rw (and-true r) (simp (and_assoc, and_comm, and-shift))

  -- a mask is a number of two bytes
  mask_fits : Bytes b → (at : ℕ) → at + 2 ≤ length b → ltb (number (part b at 2)) 0x10000 ≡ true
  mask_fits w at l = lt-ltb (number (part b at 2)) 0x10000 (number_fits b at 2 w l)

  pub planner-tested : Bytes b → length b ≡ 768 → planner_fields b && channel_tested s 0 0 0 b ≡ planner_right (context_of s) b
  unfolding planner_right planner_length planner_valid planner_in bank_count channel_in
  planner-tested w l =
      rw (
        eq-eqb (length b) 768 l,
        planner-fields (omega arith),
        mask_fits w 760 (omega arith),
        mask_fits w 762 (omega arith),
        channel-as s b false 0 (none-refreshed s b) w (omega arith) (planner-tags s b w (omega arith)),
      )
      (planner-shuffle (is_instant (instant_of (number (part b 752 4)))) (ltb (number (part b 756 2)) 32) (zero_part b 758 2) (zero_part b 764 4)
      (channel_spare b) (channel_valid (context_of s) (channel_in b)) (none-refreshed s b) (none-closes s b) (not (eqb (get_or b 729 0) 1)))

  -- the same where the stored instants are in range
  pub planner-rest : Bytes b → length b ≡ 768 → all_stored b 0 160 && all_stored b 704 6 ≡ true → (planner_fields b && tags_right s.rows s.core 0 b) && buffer_right s.columns 0 0 b ≡ planner_right (context_of s) b
  unfolding channel_tested
  planner-rest w l h = and_assoc (planner_fields b) (tags_right s.rows s.core 0 b) (buffer_right s.columns 0 0 b) ∙ rw h at (planner-tested w l)

  pub planner-length-wrong : (length b ≡ 768 → ⊥) → planner_right (context_of s) b ≡ false
  unfolding planner_right planner_length
  planner-length-wrong n = rw (ne_eqb (length b) 768 n)

-- ---- models

refr-word : (r z rows : ℕ) → r < 0x10000 → ltb (r + 0x10000 * z) 0x10000 && ltb (r + 0x10000 * z) rows ≡ eqb z 0 && ltb r rows
refr-word r z rows l =
    let n : ℕ = r + 0x10000 * z in
    iff-eq _ _
    (λ h.
    let p = ltb-true n 0x10000 (and_left (ltb n 0x10000) _ h) in
    let q = ltb-true n rows (and_right (ltb n 0x10000) _ h) in
    rw (eq-eqb z 0 (omega arith), lt-ltb r rows (omega arith)))
    (λ h.
    let p = eqb-true z 0 (and_left (eqb z 0) _ h) in
    let q = ltb-true r rows (and_right (eqb z 0) _ h) in
    rw (lt-ltb n 0x10000 (omega arith), lt-ltb n rows (omega arith)))

module _ (s : Settings) (b : List ℕ) where
  model-fields : Bytes b → 792 ≤ length b → model_fields s b ≡ zero_part b 754 6 && ltb (number (part b 752 2)) s.rows
  model-fields w l =
      rw (number-part b 752 2 6 (omega arith)) (refr-word (number (part b 752 2)) (number (part b 754 6)) s.rows (number_fits b 752 2 w (omega arith)))

  model-shuffle : (z r p v : Bool) → (z && r) && ((p && v) && true) ≡ (p && z) && (v && r)
  model-shuffle z r p v = rw (and-true (p && v)) (simp (and_assoc, and_comm, and-shift))

  pub model-tested : Bytes b → length b ≡ 792 → model_fields s b && channel_tested s 0xFFFF 256 1 b ≡ model_right (context_of s) b
  unfolding model_right model_length model_valid model_in context_of
  model-tested w l =
      rw (eq-eqb (length b) 792 l, model-fields w (omega arith), channel-as s b true 0xFFFF true w (omega arith) (model-tags s b w (omega arith)))
      (model-shuffle (zero_part b 754 6) (ltb (number (part b 752 2)) s.rows) (channel_spare b) (channel_valid (context_of s) (channel_in b)))

  pub model-length-wrong : (length b ≡ 792 → ⊥) → model_right (context_of s) b ≡ false
  unfolding model_right model_length
  model-length-wrong n = rw (ne_eqb (length b) 792 n)
