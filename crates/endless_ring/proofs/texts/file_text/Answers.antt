use Rattle.std.proofs.Common.{◌≡◌, ◌≢◌, ◌-◌, ◌^◌, rules, length}
use Rattle.endless_ring.specs.Files.{file_text}
use Rattle.endless_ring.proofs.Texted.{whole_filled}
use Rattle.endless_ring.proofs.texts.file_text.Goals as goal

pub returns : goal.returns
returns c =
    let is : c.in_ok-text.text.len ≡ c.put_file-size.result = search rules in
    let small : c.in_ok-text.text.len ≢ 2 ^ 64 - 1 = search rules in
    let room : length c.as_mut_slice.result.now ≡ c.in_ok-text.text.len = search rules in
    record {
      spelled = whole_filled (file_text c.args.file.now c.args.ring.now) _ _ c.put_file-size.ensures.written is small room c.put_file.ensures.written;
      head = c.put_file-size.ensures.is.head;
      fits = c.put_file-size.ensures.is.fits;
      legal = c.put_file-size.ensures.is.legal;
    }
