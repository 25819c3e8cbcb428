-- The names of the kit that definitions and proofs use, so that a file brings them in by one line. It adds nothing to them.

-- equality and statements
pub use Rattle.std.proofs.Common.{◌∙◌, ap, ap₂, subst, sym, inl, inr, ⊎_elim, true≢false, suc-le-suc, zero-le, add_assoc, add_comm, add-le-add, add-mul, add-suc, add-zero, div-add-mod', div-le_self, div-lt_iff_lt-mul, div-mul-le_self, eq-or-lt_of_le, eq-zero-or-pos, le-add_right, le-div_iff_mul-le, le-mul_of_pos_right, le_of_eq, le_of_lt, le_of_mul-le-mul_right, le_of_suc-le-suc, le_refl, le_trans, lt_of_le_of_lt, lt_of_lt_of_le, lt_of_mul-lt-mul_right, lt_of_not-le, lt_trans, mod-eq_of_lt, mod-lt, mul_assoc, mul_comm, mul-le-mul, mul-le-mul_left, mul-le-mul_right, mul-pos, mul-suc, mul-zero, not-suc-le-zero, one-mul, pow-suc, sub-add_cancel, sub-le, suc-add, zero-add, zero-lt-suc, zero-mul, add-one, one-add, eqb→eq, leb→le, le→leb, lit<, lit≤, ltb→lt, lt→ltb, nltb→le, pow-add, pow_mono, pow_pos, shl_exact, shl_lt, shr_lt, shr-shr, append_assoc, append-nil, drop_of_length-le, length-append, length-drop, length-set, length-take, take-append-drop, drop_at, drop-cons, drop-drop, ext_get_or, get_or-append-add, get_or-drop, get_or-set_other, get_or-set_same, get_or-take, length-take-le, take-add, take_all, take_at, take-suc, take-suc-set, take-take, to_z-of_z, arith, rules, eq-eqb, eqb-true, le-leb, le-ltb, leb-false, leb-true, lt-ltb, ltb-false, ltb-true, ne_eqb}
pub use Rattle.std.proofs.Math.Path.{◌∙⁻¹◌, subst⁻¹}
pub use Rattle.std.specs.Prelude.{◌≡◌, refl, ◌↔◌, ◌⊎◌, Bool, ◌&&◌, ◌||◌, cond, false, not, true, ◌%◌, ◌*◌, ◌+◌, ◌-◌, ◌/◌, ◌<◌, ◌^◌, ◌≤◌, suc, zero, ℕ, T, eqb, leb, ltb, ◌*ℤ◌, ◌+ℤ◌, ◌-ℤ◌, nat_abs, negsuc, neg_ℤ, pos, ℤ, ◌<ℤ◌, ◌≤ℤ◌, List, [], ◌++◌, ◌∷◌, map, drop, get_or, length, replicate, set, take}
pub use Rattle.std.specs.Bool.{beq as bool-beq}
pub use Rattle.std.proofs.Math.Bool.{and-eq-true_iff, and-false, and-true}
pub use Rattle.std.proofs.lemmas.Bool.{false≢true, eqb-false, lt-leb, not-false, not-true}
-- natural numbers
pub use Rattle.std.proofs.Math.Nat.{div-add-mod, div-eq_of_lt, div-eq_of_lt-le, le-suc, lt-div-mul-add, mod-one, mul-add-div_right, two-pow-succ}
pub use Rattle.std.proofs.Math.Numerals.{unary_clauses}
pub use Rattle.std.proofs.Math.Decide.{dec_le, dec_lt}
pub use Rattle.std.proofs.Math.Dec.{eqb-suc-zero, leb-suc-suc, leb-zero}
pub use Rattle.std.proofs.Math.Arith.{digits_div, digits_lt, digits_mod, lt_of_le-ne}
pub use Rattle.std.proofs.Math.Pow.{low, mod-mod-pow, split}
pub use Rattle.std.proofs.lemmas.Nat.{mod-pow-add, shl-shr, leading_top}
pub use Rattle.std.specs.Int.Bits.{block_half, block_odd}
pub use Rattle.std.specs.Int.Count.{count_leading_zeros}
-- whole numbers with a sign
pub use Rattle.std.proofs.Math.IntN.{*ℤ_comm, *ℤ-one, *ℤ-zero, +ℤ_assoc, +ℤ_comm, +ℤ_idl, +ℤ_idr, +ℤ_invl, +ℤ_invr, +ℤ-neg_ℤ_cancel, neg_ℤ-+ℤ, neg_ℤ-neg_ℤ, neg_ℤ-pred_ℤ, neg_ℤ-suc_ℤ, pred_ℤ, pred_ℤ-*ℤ, pred_ℤ-+ℤ, sub_ℕ, suc_ℤ, suc_ℤ-*ℤ, suc_ℤ-+ℤ, zero-*ℤ}
unfoldable pub use Rattle.std.proofs.Math.IntN.{one}
pub use Rattle.std.specs.Int.Signed.{clash_ℤ, le_z, lt_z, lt_z_no, lt_z_yes, mag, nat_abs-le, non_neg, pos-nat_abs, yes_non_neg, ≤ℤ_refl}
-- lists
pub use Rattle.std.proofs.lemmas.List.{map-append, get_or-replicate, length-map, length-replicate, replicate-append-replicate, drop-append-le, set-append_left, set_at, set_split, take-append-le, take-set-le}
pub use Rattle.std.proofs.Math.ListN.{get_or-append as list-get_or_append, get_or-eq_default as list-get_or_eq_default, get_or-map as list-get_or_map}
pub use Rattle.std.proofs.Math.Seq.{append_snoc, drop-length, paste, paste-suc, paste-zero, split_at, take-append-add, take-append_seam, take-length}
-- machine numbers and what is lent
pub use Rattle.std.specs.Int.{Width, w32, w64, w8}
pub use mir.Val.{Fits, SFits, hbits, of_z, to_z}
pub use Rattle.std.proofs.Math.Facts.{Fits-nat_abs, sfits_widen, to_z_pos}
pub use Rattle.std.proofs.lemmas.Int.{to_z-of_z as to_z_of_z_at, to_z_pos as to_z_pos_at}
pub use denote.Enum.Declared.{tag_of}
pub use types.Run.{OneOf, miss}
pub use borrow.Rule.Slice.PartMut.{mid_of, put_mid, same_len_mid}

-- what a proof asks for by name
