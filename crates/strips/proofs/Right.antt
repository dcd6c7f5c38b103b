-- Each strip of the list gives what is wanted.
use Rattle.std.specs.Prelude.{◌≡◌, refl, List, ◌∷◌, map}
use Rattle.std.proofs.Common.{ap₂}
use Rattle.strips.specs.Strips.{Answer, Strip, strips, found, constant_right, clamp_to_edge_right, repeated_right, mirrored_right, mirrored_of_one_right, undefined_right, clamped_store_right, permuted_right, clipped_right, large_index_right, stride_zero_single_right, stride_zero_pair_right, two_by_two_right, blocks_of_two_right, two_layers_right, no_object_kept_right, no_object_zeros_right}

-- so all of them do
also : {x y : Answer} {xs ys : List Answer} → x ≡ y → xs ≡ ys → x ∷ xs ≡ y ∷ ys
also p q = ap₂ ◌∷◌ p q

pub strips_right : map found strips ≡ map (λ (s : Strip). s.wanted) strips
unfolding strips
strips_right =
    (also constant_right
    (also clamp_to_edge_right
    (also repeated_right
    (also mirrored_right
    (also mirrored_of_one_right
    (also undefined_right
    (also clamped_store_right
    (also permuted_right
    (also clipped_right
    (also large_index_right
    (also stride_zero_single_right
    (also stride_zero_pair_right
    (also two_by_two_right
    (also blocks_of_two_right
    (also two_layers_right
    (also no_object_kept_right
    (also no_object_zeros_right refl)))))))))))))))))
