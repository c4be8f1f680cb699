use Rattle.std.proofs.Common.{◌≡◌, ◌∷◌, decimal, true, refl, ap, ◌∙◌}
use Rattle.obs_text.specs.Names.{is_name}
use Rattle.obs_case.specs.Adds.{meter_of, with_meter}
use Rattle.obs_case.specs.Tables.{place_names, place_of}
use Rattle.obs_trial.specs.inner.Named.{place_letter}
use Rattle.obs_trial.specs.Trial.{meter_row}
use Rattle.obs_trial.proofs.NameLemmas.{is_name-numbered, place_of-own}
use Rattle.obs_trial.proofs.rows.add_meter.Goals as goal

pub add_meter-requires : goal.add_meter-requires
add_meter-requires c = record { name = ap is_name c.numbered-name.ensures.name ∙ is_name-numbered 0x6D c.args.k refl c.ranges.k.fits }

pub returns-in-Ok : goal.returns-in-Ok
returns-in-Ok c = record {
  added = λ count has inside.
      let t = c.args.case.now in
      let kind = c.args.kind in
      let named : c.numbered-place.result.now ≡ place_letter kind ∷ decimal c.args.at = c.numbered-place.ensures.name ∙ ap (λ letter. letter ∷ decimal c.args.at) c.place_letter.ensures.letter in
      let place : place_of (place_names t kind) c.numbered-place.result.now ≡ c.args.at =
      ap (place_of (place_names t kind)) named ∙ ap (λ names. place_of names (place_letter kind ∷ decimal c.args.at)) has
      ∙ place_of-own (place_letter kind) count c.args.at inside c.ranges.at.fits in
      c.in-Ok.ensures.added
      ∙ ap (λ name. with_meter t (meter_of t name kind c.numbered-place.result.now true)) c.numbered-name.ensures.name
      ∙ ap (λ i. with_meter t (meter_row c.args.k kind i)) place;
}
