-- The bytes of fresh states: zeros, but for a planner's now.
-- Assumes nothing.
use Prim.Native.Nat.{ℕ, zero, suc, ◌*◌, ◌-◌}
use mathlib.Core.Path.{◌≡◌, refl, sym, ap, ◌∙◌}
use mathlib.Core.List.{List, ◌++◌}
use native.Mathlib.Nat.{mul-zero}
use lib.ListN.{length, get_or-replicate, replicate-append-replicate}
use Rattle.num.specs.Bytes.{bytes, splice, zeros}
use Rattle.num.proofs.SpliceLaws.{splice-right, splice-whole, length-zeros}
use Rattle.spec_rules.specs.declared.BankTrack.{BankTrack}
use Rattle.spec_rules.specs.Neighbour.{bank_count}
use Rattle.spec_rules.specs.Channel.{idle, fresh, track_of}
use Rattle.spec_state.specs.ChannelBytes.{bank_tag, plane, banks_bytes, lasts_bytes, count_bytes, buffer_bytes, channel_bytes}
use Rattle.spec_state.proofs.PlaneLaws.{grow, plane-ext}
use Rattle.spec_state.proofs.RoundTrip.{bytes-zero}
use Rattle.spec_plan.specs.Planner.{fresh_planner}
use Rattle.spec_plan.specs.PlannerBytes.{planner_bytes}
use Rattle.spec_model.specs.Model.{fresh_model}
use Rattle.spec_model.specs.ModelBytes.{model_bytes}

-- ---- the channel

plane-zero : (w n : ℕ) → plane w (λ x. 0) n ≡ zeros (w * n)
unfolding plane
plane-zero w zero = rw mul-zero
plane-zero w (suc n) = rw (plane-zero w n, bytes-zero w, grow w n) (replicate-append-replicate (w * n) w 0)

-- a number that is 0 of an idle bank
fresh-plane : (w : ℕ) (f : BankTrack → ℕ) → f idle ≡ 0 → plane w (λ x. f (track_of fresh x)) 32 ≡ zeros (w * 32)
unfolding fresh bank_count
fresh-plane w f e = plane-ext w _ (λ x. 0) 32 (λ x l. ap f (get_or-replicate 32 x idle idle l) ∙ e) ∙ plane-zero w 32

fresh-channel : channel_bytes fresh ≡ zeros 752
unfolding channel_bytes banks_bytes lasts_bytes buffer_bytes count_bytes bytes bank_count bank_tag fresh
fresh-channel =
    rw (
      fresh-plane 4 (λ k. k.opened.0 - 3) refl,
      fresh-plane 4 (λ k. k.act.0 - 3) refl,
      fresh-plane 4 (λ k. k.pre.0 - 3) refl,
      fresh-plane 4 (λ k. k.rd.0 - 3) refl,
      fresh-plane 4 (λ k. k.retire.0 - 3) refl,
      fresh-plane 2 (λ k. bank_tag k.bank) refl,
    )

-- ---- what is put

pub planner-put : (l : List ℕ) → length l ≡ 768 → splice (splice l 0 (zeros 768)) 752 (bytes 4 1) ≡ planner_bytes fresh_planner
unfolding planner_bytes fresh_planner bytes
planner-put l e =
    ap (λ (b : List ℕ). splice b 752 (bytes 4 1)) (splice-whole l (zeros 768) (length-zeros 768 ∙ sym e))
    ∙ splice-right (zeros 752) (zeros 16) 752 0 (bytes 4 1) (length-zeros 752)
    ∙ ap (λ (b : List ℕ). b ++ (bytes 4 1 ++ zeros 12)) (sym fresh-channel)

pub model-put : (l : List ℕ) → length l ≡ 792 → splice l 0 (zeros 792) ≡ model_bytes fresh_model
unfolding model_bytes fresh_model bytes
model-put l e = splice-whole l (zeros 792) (length-zeros 792 ∙ sym e) ∙ ap (λ (b : List ℕ). b ++ zeros 40) (sym fresh-channel)
