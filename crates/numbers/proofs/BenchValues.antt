-- The values of document 01's bench table that concern the number helpers, and some worked values of the stand-ins, by computation.
use Rattle.std.proofs.Common.{◌≡◌, true, false, pos, refl}
use lib.Ieee.{nan, inf, fin, binary32, binary64, of_bits, to_bits, add, sub, eq, of_fields, size, mul, div, of_int, round, lt, le, is_nan}
use Rattle.numbers.specs.Constants.{zero}
use Rattle.numbers.specs.Limits.{unit, clamp}
use Rattle.numbers.specs.Conversions.{round_u64, narrow}
use Rattle.numbers.specs.StandIns.{exp_m1, ln1p, powi, exp_series, doublings, pow_bits, ln_series, ln_of, ln_split, significand, exponent}

-- unit(NaN) = unit(-0) = +0; 0.49999999999999994 rounds to 0, 0.5 to 1; E(0) = 0.
pub table : (unit nan ≡ zero) × (unit (fin true 0 (pos 0)) ≡ zero)
    × (round_u64 (of_bits binary64 0x3fdf_ffff_ffff_ffff) ≡ 0) × (round_u64 (of_bits binary64 0x3fe0_0000_0000_0000) ≡ 1)
    × (exp_m1 zero ≡ zero)
unfolding unit clamp lt is_nan round_u64 of_bits exp_m1 exp_series doublings add mul div of_int
table = (refl, refl, refl, refl, refl)

-- 0.1; half of the smallest subnormal, a tie to 0; a tie to the odd neighbour's even one; the largest binary64.
pub narrowed : (to_bits binary32 (narrow (of_bits binary64 0x3fb9_9999_9999_999a)) ≡ 0x3dcc_cccd)
    × (to_bits binary32 (narrow (of_bits binary64 0x3690_0000_0000_0000)) ≡ 0)
    × (to_bits binary32 (narrow (of_bits binary64 0x3ff0_0000_3000_0000)) ≡ 0x3f80_0002)
    × (narrow (of_bits binary64 0x7fef_ffff_ffff_ffff) ≡ inf false)
unfolding narrow of_bits to_bits round
narrowed = (refl, refl, refl, refl)

-- Run against another implementation of the same steps: E(1), E(-0.3), L(1), L near -1, L of a large number, two powers.
pub stood_in : (to_bits binary64 (exp_m1 (of_bits binary64 0x3ff0000000000000)) ≡ 0x3ffb7e151628aed2)
    × (to_bits binary64 (exp_m1 (of_bits binary64 0xbfd3333333333333)) ≡ 0xbfd0966f2c7907f6)
    × (to_bits binary64 (ln1p (of_bits binary64 0x3ff0000000000000)) ≡ 0x3fe62e42fefa39ef)
    × (to_bits binary64 (ln1p (of_bits binary64 0xbfeff7ced916872b)) ≡ 0xc01ba18a998fff9f)
    × (to_bits binary64 (ln1p (of_bits binary64 0x40fe240000000000)) ≡ 0x402772820431b3bc)
    × (to_bits binary64 (powi (of_bits binary64 0x3feffd8adab9f55a) 16384) ≡ 0x3f7e04d9b10119db)
    × (to_bits binary64 (powi (of_bits binary64 0x3ff028f5c28f5c29) 777) ≡ 0x40a1cd9cdf8251c0)
unfolding exp_m1 ln1p powi exp_series doublings pow_bits ln_series ln_of ln_split significand exponent of_bits to_bits add sub mul div of_int lt le eq of_fields size
stood_in = (refl, refl, refl, refl, refl, refl, refl)
