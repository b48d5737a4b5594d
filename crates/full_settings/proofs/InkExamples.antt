-- What the numbers of TR and SV ask for, in millionths.
use Rattle.std.proofs.Common.{[], ◌∷◌, refl, pos, negsuc, Some, None, true, false}
use Rattle.exact.proofs.Tables.{Table}
use Rattle.full_settings.specs.InkParameters.{screen, transparency}
use Rattle.full_settings.specs.declared.ink_setting.InkSetting.TheVariants.{HidesWhite, Screen, OtherScreen}

-- TR
modes : Table transparency (
    ([], Some (HidesWhite true))  -- no mode
    ∷ (pos 0 ∷ [], Some (HidesWhite false))  -- off
    ∷ (pos 500000 ∷ pos 7000000 ∷ [], Some (HidesWhite true))  -- rounded, and a further number
    ∷ (pos 1500000 ∷ [], None)  -- no mode 2
    ∷ (negsuc 999999 ∷ [], None)  -- nor one below 0
    ∷ [])
modes = refl

-- SV
screens : Table screen (
    ([], Some (Screen None))  -- no screen
    ∷ (pos 0 ∷ pos 200000000 ∷ [], Some (Screen None))  -- off, whose level is not read
    ∷ (pos 1000000 ∷ [], Some (Screen (Some 50000000)))  -- half, if no level is named
    ∷ (pos 1000000 ∷ pos 0 ∷ [], Some (Screen (Some 0)))  -- the least level
    ∷ (pos 1000000 ∷ pos 12500000 ∷ pos 9000000 ∷ [], Some (Screen (Some 12500000)))  -- 12.5 percent, and a further number
    ∷ (pos 1000000 ∷ pos 100000000 ∷ [], Some (Screen (Some 100000000)))  -- the greatest level
    ∷ (pos 1000000 ∷ pos 100000001 ∷ [], None)  -- too much
    ∷ (pos 1000000 ∷ negsuc 0 ∷ [], None)  -- less than nothing
    ∷ (pos 2000000 ∷ pos 200000000 ∷ [], Some OtherScreen)  -- patterns, whose numbers are not read
    ∷ (pos 11000000 ∷ [], Some OtherScreen)
    ∷ (pos 21000000 ∷ [], Some OtherScreen)
    ∷ (pos 22000000 ∷ [], Some OtherScreen)
    ∷ (pos 3000000 ∷ [], None)  -- no screen 3
    ∷ [])
screens = refl
