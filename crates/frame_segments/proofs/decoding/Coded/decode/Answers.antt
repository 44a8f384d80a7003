use Rattle.std.proofs.Common.{◌≡◌, ℕ, length, take, drop, sym, ◌∙◌, ap, arith}
use Rattle.std.proofs.lemmas.List.{length-take, take_at}
use Rattle.ljpeg_predict.specs.Decoded.{decoded, told}
use Rattle.dng_tags.specs.Raw.{coded_count, jpeg_samples, samples_in, segment_bytes}
use Rattle.dng_tags.specs.declared.record.Coding.{Coding}
use Rattle.frame_segments.proofs.decoding.Coded.decode.Goals as goal

pub returns-in-Packed : goal.returns-in-Packed
unfolding samples_in
returns-in-Packed c =
    let bytes = c.args.self.now.bytes.now in
    let segment = c.args.segment.now in
    let count = coded_count segment in
    let out = c.unpack_samples.new.out in
    let long : length out ≡ count = simp length-take at c.unpack_samples.auto.out ∙ omega arith in
    ap (λ (coding : Coding). samples_in bytes coding segment) c.in-Packed.is
    ∙ (c.unpack_samples.ensures
    ∙ ap (told c.unpack_samples.result)
    (sym (take_at out (drop c.coded_count.result c.args.buffer.now) count long)))

pub returns-in-LosslessJpeg : goal.returns-in-LosslessJpeg
unfolding samples_in
returns-in-LosslessJpeg c =
    let bytes = c.args.self.now.bytes.now in
    let segment = c.args.segment.now in
    let count = coded_count segment in
    let out = c.decode_stream.new.out in
    let room : length (take c.coded_count.result c.args.buffer.now) ≡ count = simp length-take (omega arith) in
    let long : length out ≡ count = c.decode_stream.auto.out ∙ room in
    ap (λ (coding : Coding). samples_in bytes coding segment) c.in-LosslessJpeg.is
    ∙ (ap (λ (n : ℕ). jpeg_samples (decoded (segment_bytes bytes segment) n)) (sym room)
    ∙ (c.decode_stream.ensures
    ∙ ap (told c.decode_stream.result)
    (sym (take_at out (drop c.coded_count.result c.args.buffer.now) count long))))
